-- What two lanes report of a series together is what every interleaving reports.
use Rattle.std.proofs.Common.{◌≡◌, ℕ, ◌+◌, ◌<◌, ℤ, pos, ◌+ℤ◌, Bool, true, false, cond}
use Rattle.std.proofs.Common.{List, [], ◌∷◌, length, map, refl, sym, ap, ◌∙◌, arith, Option, Some}
use Rattle.std.specs.Prelude.{fold, ◌==◌}
use Rattle.std.specs.Int.{int_min, int_max}
use Rattle.std.specs.List.{range_with_len}
use Rattle.std.proofs.lemmas.List.Sums.{sum_by-cons}
use Rattle.std.proofs.lemmas.Bool.{true≢false}
use Rattle.std.proofs.lemmas.Int.{ints, clamps}
use Rattle.metric_aggregate.specs.Aggregation.{SumAggregation, LastValueAggregation}
use Rattle.metric_aggregate.specs.Aggregation.{HistogramAggregation}
use Rattle.metric_aggregate.specs.Value.{sum_of, least_or, greatest_or, bucket_of}
use Rattle.metric_aggregate.specs.Value.{bucket_count, kept_sum}
use Rattle.metric_aggregate.specs.declared.point_value.PointValue.TheVariants.{Sum, Buckets}
use Rattle.metric_lanes.specs.Joined.{Interleaves, none, left, right, added, sums, JoinsValues}

-- a sum from a start
fold_from : (start : ℤ) (xs : List ℤ) → fold ◌+ℤ◌ start xs ≡ start +ℤ sum_of xs
fold_from start [] = omega (arith, ints)
fold_from start (x ∷ xs) =
    omega (arith, ints, fold_from (start +ℤ x) xs, fold_from (pos 0 +ℤ x) xs)

sum_cons : (x : ℤ) (xs : List ℤ) → sum_of (x ∷ xs) ≡ x +ℤ sum_of xs
sum_cons x xs = omega (arith, ints, fold_from (pos 0 +ℤ x) xs)

sums_join : {xs ys zs : List ℤ} → Interleaves xs ys zs → sum_of zs ≡ sum_of xs +ℤ sum_of ys
sums_join none = omega (arith, ints)
sums_join (left {x} {xs} {ys} {zs} r) =
    omega (arith, ints, sums_join r, sum_cons x xs, sum_cons x zs)
sums_join (right {y} {xs} {ys} {zs} r) =
    omega (arith, ints, sums_join r, sum_cons y ys, sum_cons y zs)

pub lengths_join : {X : Type 0} {xs ys zs : List X} → Interleaves xs ys zs
    → length zs ≡ length xs + length ys
lengths_join none = refl
lengths_join (left r) = omega (arith, lengths_join r)
lengths_join (right r) = omega (arith, lengths_join r)

counts_join : (bs : List ℤ) (k : ℕ) {xs ys zs : List ℤ} → Interleaves xs ys zs
    → bucket_count bs zs k ≡ bucket_count bs xs k + bucket_count bs ys k
counts_join bs k none = refl
counts_join bs k (left {x} {xs} {ys} {zs} r) =
    let f : ℤ → ℕ = λ value. cond (bucket_of bs value == k) 1 0 in
    omega (arith, counts_join bs k r, sum_by-cons f x xs, sum_by-cons f x zs)
counts_join bs k (right {y} {xs} {ys} {zs} r) =
    let f : ℤ → ℕ = λ value. cond (bucket_of bs value == k) 1 0 in
    omega (arith, counts_join bs k r, sum_by-cons f y ys, sum_by-cons f y zs)

buckets_join : (bs : List ℤ) (ks : List ℕ) {xs ys zs : List ℤ} → Interleaves xs ys zs
    → map (bucket_count bs zs) ks ≡ added (map (bucket_count bs xs) ks) (map (bucket_count bs ys) ks)
buckets_join bs [] r = refl
buckets_join bs (k ∷ ks) {xs} {ys} {zs} r =
    ap (λ (n : ℕ). n ∷ map (bucket_count bs zs) ks) (counts_join bs k r)
    ∙ ap (λ (ns : List ℕ). (bucket_count bs xs k + bucket_count bs ys k) ∷ ns) (buckets_join bs ks r)

kept_join : (keeps : Bool) {xs ys zs : List ℤ} → Interleaves xs ys zs
    → kept_sum keeps zs ≡ sums (kept_sum keeps xs) (kept_sum keeps ys)
kept_join true r = ap Some (sums_join r)
kept_join false r = refl

-- one value more, and the least of the others, in either order
leasts_any : (a x : ℤ) (ws : List ℤ)
    → int_min a (least_or a (x ∷ ws)) ≡ int_min x (int_min a (least_or a ws))
leasts_any a x [] = omega (arith, ints, clamps)
leasts_any a x (w ∷ ws) = omega (arith, ints, clamps)

leasts_join : (a : ℤ) {xs ys zs : List ℤ} → Interleaves xs ys zs
    → int_min a (least_or a zs) ≡ int_min (int_min a (least_or a xs)) (int_min a (least_or a ys))
leasts_join a none = omega (arith, ints, clamps)
leasts_join a (left {x} {xs} {ys} {zs} r) =
    omega (arith, ints, clamps, leasts_join a r, leasts_any a x xs, leasts_any a x zs)
leasts_join a (right {y} {xs} {ys} {zs} r) =
    omega (arith, ints, clamps, leasts_join a r, leasts_any a y ys, leasts_any a y zs)

greatests_any : (a x : ℤ) (ws : List ℤ)
    → int_max a (greatest_or a (x ∷ ws)) ≡ int_max x (int_max a (greatest_or a ws))
greatests_any a x [] = omega (arith, ints, clamps)
greatests_any a x (w ∷ ws) = omega (arith, ints, clamps)

greatests_join : (a : ℤ) {xs ys zs : List ℤ} → Interleaves xs ys zs
    → int_max a (greatest_or a zs)
    ≡ int_max (int_max a (greatest_or a xs)) (int_max a (greatest_or a ys))
greatests_join a none = omega (arith, ints, clamps)
greatests_join a (left {x} {xs} {ys} {zs} r) =
    omega (arith, ints, clamps, greatests_join a r, greatests_any a x xs, greatests_any a x zs)
greatests_join a (right {y} {xs} {ys} {zs} r) =
    omega (arith, ints, clamps, greatests_join a r, greatests_any a y ys, greatests_any a y zs)

-- where there are some, what stands for none is not asked for
any_least : (a b : ℤ) (xs : List ℤ) → 0 < length xs → least_or a xs ≡ least_or b xs
any_least a b [] some = absurd (omega arith)
any_least a b (x ∷ xs) some = refl

any_greatest : (a b : ℤ) (xs : List ℤ) → 0 < length xs → greatest_or a xs ≡ greatest_or b xs
any_greatest a b [] some = absurd (omega arith)
any_greatest a b (x ∷ xs) some = refl

least_joins : (xs ys zs : List ℤ) → Interleaves xs ys zs → 0 < length xs → 0 < length ys
    → least_or (pos 0) zs ≡ int_min (least_or (pos 0) xs) (least_or (pos 0) ys)
least_joins xs ys zs r p q =
    let n : 0 < length zs = omega (arith, lengths_join r) in
    let z : ℤ = least_or (pos 0) zs in
    let m : ℤ = int_min (least_or (pos 0) xs) (least_or (pos 0) ys) in
    omega (
      arith,
      ints,
      clamps,
      leasts_join z r,
      leasts_join m r,
      any_least z (pos 0) xs p,
      any_least z (pos 0) ys q,
      any_least z (pos 0) zs n,
      any_least m (pos 0) xs p,
      any_least m (pos 0) ys q,
      any_least m (pos 0) zs n,
    )

greatest_joins : (xs ys zs : List ℤ) → Interleaves xs ys zs → 0 < length xs → 0 < length ys
    → greatest_or (pos 0) zs ≡ int_max (greatest_or (pos 0) xs) (greatest_or (pos 0) ys)
greatest_joins xs ys zs r p q =
    let n : 0 < length zs = omega (arith, lengths_join r) in
    let z : ℤ = greatest_or (pos 0) zs in
    let m : ℤ = int_max (greatest_or (pos 0) xs) (greatest_or (pos 0) ys) in
    omega (
      arith,
      ints,
      clamps,
      greatests_join z r,
      greatests_join m r,
      any_greatest z (pos 0) xs p,
      any_greatest z (pos 0) ys q,
      any_greatest z (pos 0) zs n,
      any_greatest m (pos 0) xs p,
      any_greatest m (pos 0) ys q,
      any_greatest m (pos 0) zs n,
    )

same_buckets : {m n : ℕ} {ms ns : List ℕ} {r s : Option ℤ} {k l f g : ℤ} → m ≡ n → ms ≡ ns
    → r ≡ s → k ≡ l → f ≡ g → Buckets m ms r k f ≡ Buckets n ns s l g
same_buckets a b c d e i = Buckets (a i) (b i) (c i) (d i) (e i)

-- what two lanes report of a series together is what every interleaving of their values reports
pub joins_values : JoinsValues
joins_values SumAggregation xs ys zs may r p q = ap Sum (sums_join r)
joins_values LastValueAggregation xs ys zs may r p q = absurd (true≢false (sym may))
joins_values (HistogramAggregation bs keeps_sum) xs ys zs may r p q =
    same_buckets (lengths_join r) (buckets_join bs (range_with_len 0 (length bs + 1)) r)
    (kept_join keeps_sum r) (least_joins xs ys zs r p q) (greatest_joins xs ys zs r p q)
