-- What a stream reports rises by set keys, and points that rise are known by what they say of each series.
use Rattle.std.proofs.Common.{◌≡◌, Ordering, Less, Equal, Greater, ℕ, ◌+◌, Bool, true, false, not, ◌||◌, cond, List, [], ◌∷◌, ◌++◌, Option, Some, None, map, refl, sym, ap, subst, ◌∙◌}
use Rattle.std.specs.Cmp.{nat_cmp_is}
use Rattle.std.specs.Cmp.Lexicographic.{slice_cmp}
use Rattle.std.specs.List.{AllByRecursion, IsDistinct, list_any}
use Rattle.std.specs.List.Sorted.{IsStrictlySortedBy}
use Rattle.std.specs.Ordering.{nat_cmp, ordering_reverse}
use Rattle.std.specs.Str.{bytes_eq}
use Rattle.std.proofs.lemmas.Bool.{true≢false}
use Rattle.std.proofs.lemmas.Cmp.{nat_list_cmp_total}
use Rattle.std.proofs.lemmas.List.{append-nil, take_all}
use Rattle.std.proofs.lemmas.Map.Lookups.{exact_bytes}
use Rattle.metric_aggregate.specs.declared.point_value.PointValue.{PointValue}
use Rattle.metric_history.specs.declared.batch.Point.{Point}
use Rattle.metric_history.specs.declared.entry.Entry.{Entry}
use Rattle.metric_history.specs.Points.{ascending, overflow, point, points}
use Rattle.metric_history.specs.Series.{all_series, belongs, distinct, has, held, series}
use Rattle.metric_history.proofs.Distinct.{ascending_rises, distinct_once}
use Rattle.metric_history.specs.SeriesLaws.{has-distinct, key_is_same, same_key}
use Rattle.metric_views.specs.declared.stream.Stream.{Stream}
use Rattle.metric_lanes.specs.Together.{HasSet, IsBefore, IsBeforeAll, IsBeforeFirst, IsHeld, IsRising, ReportTogether, TogetherOnce, is_of, value_at}
use Rattle.metric_lanes.proofs.TogetherLaws.{each_together}

-- ---- what a stream reports rises

points_before : (s : Stream) (window : List Entry) (key : List ℕ) (keys : List (List ℕ)) → AllByRecursion (λ y. slice_cmp nat_cmp key y ≡ Less) keys
    → IsBeforeAll (Some key) (map (λ k. point s window (Some k)) keys)
points_before s window key [] all = tt
points_before s window key (k ∷ keys) all = (all.0, points_before s window key keys all.1)

rising_points : (s : Stream) (window : List Entry) (keys : List (List ℕ)) → IsStrictlySortedBy (slice_cmp nat_cmp) keys
    → IsRising (map (λ k. point s window (Some k)) keys)
unfolding IsStrictlySortedBy
rising_points s window [] up = tt
rising_points s window (k ∷ keys) up = (tt, (points_before s window k keys up.0, rising_points s window keys up.1))

-- where each series of the window has a place, none is left out
all_held : (s : Stream) (window : List Entry) → IsHeld s window → held s window ≡ distinct (all_series s.kept window)
all_held s window room = take_all s.limit (distinct (all_series s.kept window)) room

none_over : (s : Stream) (window rest : List Entry) → IsHeld s window → ((key : List ℕ) → has (all_series s.kept rest) key ≡ true → has (all_series s.kept window) key ≡ true)
    → list_any (belongs s window None) rest ≡ false
none_over s window [] room inside = refl
none_over s window (e ∷ rest) room inside =
    ap (λ (b : Bool). not b || list_any (belongs s window None) rest) own
    ∙ none_over s window rest room (λ key found. inside key (later (bytes_eq (series s.kept e) key) (has (all_series s.kept rest) key) found))
  where
    later : (a b : Bool) → b ≡ true → (a || b) ≡ true
    later true b f = refl
    later false b f = f

    own : has (held s window) (series s.kept e) ≡ true
    own =
        ap (λ (keys : List (List ℕ)). has keys (series s.kept e)) (all_held s window room)
        ∙ has-distinct (all_series s.kept window) (series s.kept e)
        ∙ inside (series s.kept e) (ap (λ (b : Bool). b || has (all_series s.kept rest) (series s.kept e)) (key_is_same (series s.kept e)))

no_overflow : (s : Stream) (window : List Entry) → IsHeld s window → overflow s window ≡ []
no_overflow s window room = ap (λ (b : Bool). cond b (point s window None ∷ []) []) (none_over s window window room (λ key found. found))

pub points_rise : (s : Stream) (window : List Entry) → IsHeld s window → IsRising (points s window)
points_rise s window room =
    subst IsRising
    (sym (ap (λ (over : List Point). map (λ k. point s window (Some k)) (ascending (held s window)) ++ over) (no_overflow s window room)
    ∙ append-nil (map (λ k. point s window (Some k)) (ascending (held s window)))))
    (rising_points s window (ascending (held s window))
    (ascending_rises (held s window) (subst (IsDistinct bytes_eq) (sym (all_held s window room)) (distinct_once (all_series s.kept window)))))

pub report_together : ReportTogether
report_together s xs ys zs may r held_xs held_ys held_zs = record {
  each = each_together s xs ys zs may r held_xs held_ys held_zs;
  rising = points_rise s zs held_zs;
}

-- ---- what is said of a series where points rise

list_itself : (xs : List ℕ) → slice_cmp nat_cmp xs xs ≡ Equal
list_itself [] = refl
list_itself (x ∷ xs) = rw (← nat_cmp_is x x Equal refl) (list_itself xs)

-- nothing, where its key comes before all
nothing_at : (key : List ℕ) (points : List Point) → IsBeforeAll (Some key) points → value_at points key ≡ None
nothing_at key [] below = refl
nothing_at key (p ∷ points) below = at p.set below.0 (nothing_at key points below.1)
  where
    unlike : slice_cmp nat_cmp key key ≡ Less → slice_cmp nat_cmp key key ≡ Equal → ⊥
    unlike l m = cc

    by : (other : List ℕ) (b : Bool) → bytes_eq other key ≡ b → slice_cmp nat_cmp key other ≡ Less → value_at points key ≡ None
        → cond b (Some p.value) (value_at points key) ≡ None
    by other false e before rest = rest
    by other true e before rest =
        absurd (unlike (subst (λ (k : List ℕ). slice_cmp nat_cmp key k ≡ Less) (same_key other key e) before) (list_itself key))

    at : (set : Option (List ℕ)) → IsBefore (Some key) set → value_at points key ≡ None
        → cond (is_of set key) (Some p.value) (value_at points key) ≡ None
    at None before rest = absurd before
    at (Some other) before rest = by other (bytes_eq other key) refl before rest

pub nothing_of : (set : Option (List ℕ)) (key : List ℕ) (points : List Point) → IsBeforeAll set points → is_of set key ≡ true → value_at points key ≡ None
nothing_of None key points below e = absurd (true≢false (sym e))
nothing_of (Some own) key points below e = nothing_at key points (subst (λ (k : List ℕ). IsBeforeAll (Some k) points) (same_key own key e) below)

before_before : (a b c : Option (List ℕ)) → IsBefore a b → IsBefore b c → IsBefore a c
before_before None b c p q = absurd p
before_before (Some a) None c p q = absurd p
before_before (Some a) (Some b) None p q = absurd q
before_before (Some a) (Some b) (Some c) p q = nat_list_cmp_total.trans a b c p q

before_all : (a b : Option (List ℕ)) (points : List Point) → IsBefore a b → IsBeforeAll b points → IsBeforeAll a points
before_all a b [] p below = tt
before_all a b (q ∷ points) p below = (before_before a b q.set p below.0, before_all a b points p below.1)

-- what comes before the first of them comes before all
pub first_before : (set : Option (List ℕ)) (points : List Point) → IsBeforeFirst set points → IsRising points → IsBeforeAll set points
first_before set [] first up = tt
first_before set (p ∷ points) first up = (first, before_all set p.set points first up.1.0)

-- ---- points that rise are known by what they say of each series

pub own_value : (key : List ℕ) (p : Point) (points : List Point) → p.set ≡ Some key → value_at (p ∷ points) key ≡ Some p.value
own_value key p points e =
    ap (λ (set : Option (List ℕ)). cond (is_of set key) (Some p.value) (value_at points key)) e
    ∙ ap (λ (b : Bool). cond b (Some p.value) (value_at points key)) (key_is_same key)

some_none : (v : PointValue) → Some v ≡ None → ⊥
some_none v e = cc

some_some : (v w : PointValue) → Some v ≡ Some w → v ≡ w
some_some v w e = cc

same_point : (p q : Point) → p.set ≡ q.set → p.value ≡ q.value → p ≡ q
same_point p q a b i = record { set = a i; value = b i }

-- the set key of a point that is not the overflow point
pub key_of : (set : Option (List ℕ)) → HasSet set → (key : List ℕ) × (set ≡ Some key)
key_of None has = absurd has
key_of (Some key) has = (key, refl)

-- a series of the one is not before all of the other
never_before : (p : Point) (ps qs : List Point) (key : List ℕ) → p.set ≡ Some key → IsBeforeAll (Some key) qs
    → ((k : List ℕ) → value_at (p ∷ ps) k ≡ value_at qs k) → ⊥
never_before p ps qs key e below same = some_none p.value (sym (own_value key p ps e) ∙ same key ∙ nothing_at key qs below)

before_these : (k l : List ℕ) (q : Point) (qs : List Point) → q.set ≡ Some l → slice_cmp nat_cmp k l ≡ Less → IsBeforeAll q.set qs → IsBeforeAll (Some k) (q ∷ qs)
before_these k l q qs e less below =
    let here : IsBefore (Some k) q.set = subst (IsBefore (Some k)) (sym e) less in
    (here, before_all (Some k) q.set qs here below)

-- without the first of both
tails : (p q : Point) (ps qs : List Point) → p.set ≡ q.set → IsBeforeAll p.set ps → IsBeforeAll q.set qs
    → ((k : List ℕ) → value_at (p ∷ ps) k ≡ value_at (q ∷ qs) k) → (k : List ℕ) → value_at ps k ≡ value_at qs k
tails p q ps qs e below above same k = at (is_of p.set k) refl (same k)
  where
    at : (b : Bool) → is_of p.set k ≡ b → cond (is_of p.set k) (Some p.value) (value_at ps k) ≡ cond (is_of q.set k) (Some q.value) (value_at qs k)
        → value_at ps k ≡ value_at qs k
    at true own given = nothing_of p.set k ps below own ∙ sym (nothing_of q.set k qs above (ap (λ (set : Option (List ℕ)). is_of set k) (sym e) ∙ own))
    at false own given =
        sym (ap (λ (b : Bool). cond b (Some p.value) (value_at ps k)) own)
        ∙ given
        ∙ ap (λ (b : Bool). cond b (Some q.value) (value_at qs k)) (ap (λ (set : Option (List ℕ)). is_of set k) (sym e) ∙ own)

pub once : (a b : List Point) → IsRising a → IsRising b → ((key : List ℕ) → value_at a key ≡ value_at b key) → a ≡ b
once [] [] up down same = refl
once [] (q ∷ qs) up down same =
    let own = key_of q.set down.0 in
    absurd (some_none q.value (sym (own_value own.0 q qs own.1) ∙ sym (same own.0)))
once (p ∷ ps) [] up down same =
    let own = key_of p.set up.0 in
    absurd (some_none p.value (sym (own_value own.0 p ps own.1) ∙ same own.0))
once (p ∷ ps) (q ∷ qs) up down same = at (key_of p.set up.0) (key_of q.set down.0) (once ps qs up.1.1 down.1.1)
  where
    at : (k : (key : List ℕ) × (p.set ≡ Some key)) (l : (key : List ℕ) × (q.set ≡ Some key))
        → (((key : List ℕ) → value_at ps key ≡ value_at qs key) → ps ≡ qs) → (p ∷ ps) ≡ (q ∷ qs)
    at k l rest = by (slice_cmp nat_cmp k.0 l.0) refl
      where
        greater : slice_cmp nat_cmp k.0 l.0 ≡ Greater → slice_cmp nat_cmp l.0 k.0 ≡ Less
        greater e = nat_list_cmp_total.antisymm l.0 k.0 ∙ ap ordering_reverse e

        by : (order : Ordering) → slice_cmp nat_cmp k.0 l.0 ≡ order → (p ∷ ps) ≡ (q ∷ qs)
        by Less e = absurd (never_before p ps (q ∷ qs) k.0 k.1 (before_these k.0 l.0 q qs l.1 e down.1.0) same)
        by Greater e = absurd (never_before q qs (p ∷ ps) l.0 l.1 (before_these l.0 k.0 p ps k.1 (greater e) up.1.0) (λ key. sym (same key)))
        by Equal e =
            let key : k.0 ≡ l.0 = exact_bytes k.0 l.0 e in
            let set : p.set ≡ q.set = k.1 ∙ ap Some key ∙ sym l.1 in
            let value : p.value ≡ q.value =
            some_some p.value q.value (sym (own_value k.0 p ps k.1) ∙ same k.0 ∙ own_value k.0 q qs (sym set ∙ k.1)) in
            ap (λ (x : Point). x ∷ ps) (same_point p q set value) ∙ ap (λ (xs : List Point). q ∷ xs) (rest (tails p q ps qs set up.1.0 down.1.0 same))

pub together_once : TogetherOnce
together_once a b first second p q = once first second p.rising q.rising (λ key. p.each key ∙ sym (q.each key))
