-- What a stream reports of every interleaving of two lanes.
use Rattle.std.proofs.Common.{◌≡◌, ℕ, ◌<◌, Bool, true, false, ◌||◌, cond, List, [], ◌∷◌}
use Rattle.std.proofs.Common.{◌++◌, length, map, Option, Some, None, refl, ap, sym, subst, ◌∙◌, arith}
use Rattle.std.specs.Prelude.{IsTrue, filter}
use Rattle.std.specs.List.{list_any}
use Rattle.std.specs.Str.{bytes_eq}
use Rattle.std.proofs.lemmas.List.{length-map, take_all}
use Rattle.std.proofs.lemmas.List.Sorted.{list_any-IsPermutation}
use Rattle.std.proofs.lemmas.Bool.{true≢false}
use Rattle.metric_aggregate.specs.Value.{value_of}
use Rattle.metric_aggregate.specs.declared.point_value.PointValue.{PointValue}
use Rattle.metric_history.specs.declared.entry.Entry.{Entry}
use Rattle.metric_views.specs.declared.stream.Stream.{Stream}
use Rattle.metric_history.specs.Aggregations.{stream_aggregation}
use Rattle.metric_history.specs.Points.{ascending, overflow, point, points, values}
use Rattle.metric_history.specs.PointLaws.{ascending-IsPermutation}
use Rattle.metric_history.specs.Series.{all_series, belongs, distinct, has, held, rows, series}
use Rattle.metric_history.specs.SeriesLaws.{has-distinct, same_key}
use Rattle.metric_lanes.specs.Joined.{Interleaves, none, left, right, joins}
use Rattle.metric_lanes.proofs.JoinedLaws.{joins_values}
use Rattle.metric_lanes.specs.Together.{AreTogether, IsHeld, joined_at, value_at}

maps_join : {X Y : Type 0} (f : X → Y) {xs ys zs : List X} → Interleaves xs ys zs
    → Interleaves (map f xs) (map f ys) (map f zs)
maps_join f none = none
maps_join f (left r) = left (maps_join f r)
maps_join f (right r) = right (maps_join f r)

filters_join : {X : Type 0} (p q t : X → Bool) → ((x : X) → p x ≡ t x) → ((x : X) → q x ≡ t x)
    → {xs ys zs : List X} → Interleaves xs ys zs
    → Interleaves (filter p xs) (filter q ys) (filter t zs)
filters_join p q t same other none = none
filters_join {X} p q t same other (left {x} {xs} {ys} {zs} r) =
    subst (λ (b : Bool). Interleaves (cond b (x ∷ filter p xs) (filter p xs)) (filter q ys)
    (filter t (x ∷ zs))) (sym (same x)) (by (t x) (filters_join p q t same other r))
  where
    by : (b : Bool) → Interleaves (filter p xs) (filter q ys) (filter t zs)
        → Interleaves (cond b (x ∷ filter p xs) (filter p xs)) (filter q ys)
        (cond b (x ∷ filter t zs) (filter t zs))
    by true rest = left rest
    by false rest = rest
filters_join {X} p q t same other (right {y} {xs} {ys} {zs} r) =
    subst (λ (b : Bool). Interleaves (filter p xs) (cond b (y ∷ filter q ys) (filter q ys))
    (filter t (y ∷ zs))) (sym (other y)) (by (t y) (filters_join p q t same other r))
  where
    by : (b : Bool) → Interleaves (filter p xs) (filter q ys) (filter t zs)
        → Interleaves (filter p xs) (cond b (y ∷ filter q ys) (filter q ys))
        (cond b (y ∷ filter t zs) (filter t zs))
    by true rest = right rest
    by false rest = rest

-- a lane beside one without any
alone_left : {X : Type 0} {xs ys zs : List X} → Interleaves xs ys zs → ys ≡ [] → zs ≡ xs
alone_left none e = refl
alone_left (left {x} r) e = ap (λ ws. x ∷ ws) (alone_left r e)
alone_left (right r) e = absurd cc

alone_right : {X : Type 0} {xs ys zs : List X} → Interleaves xs ys zs → xs ≡ [] → zs ≡ ys
alone_right none e = refl
alone_right (left r) e = absurd cc
alone_right (right {y} r) e = ap (λ ws. y ∷ ws) (alone_right r e)

or_true : (b : Bool) → (b || true) ≡ true
or_true true = refl
or_true false = refl

has_join : {ks ls ms : List (List ℕ)} → Interleaves ks ls ms → (key : List ℕ)
    → has ms key ≡ (has ks key || has ls key)
has_join none key = refl
has_join (left {x} {xs} {ys} {zs} r) key = by (bytes_eq x key) (has_join r key)
  where
    by : (b : Bool) → has zs key ≡ (has xs key || has ys key)
        → (b || has zs key) ≡ ((b || has xs key) || has ys key)
    by true rest = refl
    by false rest = rest
has_join (right {y} {xs} {ys} {zs} r) key = by (bytes_eq y key) (has_join r key)
  where
    by : (b : Bool) → has zs key ≡ (has xs key || has ys key)
        → (b || has zs key) ≡ (has xs key || (b || has ys key))
    by true rest = sym (or_true (has xs key))
    by false rest = rest

-- what a stream reports of a series
abbrev told : Stream → List Entry → List ℕ → PointValue
told s window key = value_of (stream_aggregation s) (values (rows s window (Some key)))

found_in : (s : Stream) (window : List Entry) (keys : List (List ℕ)) (key : List ℕ)
    → value_at (map (λ k. point s window (Some k)) keys ++ overflow s window) key
    ≡ cond (has keys key) (Some (told s window key)) None
found_in s window [] key = by (list_any (belongs s window None) window)
  where
    by : (b : Bool) → value_at (cond b (point s window None ∷ []) []) key ≡ None
    by true = refl
    by false = refl
found_in s window (x ∷ keys) key = by (bytes_eq x key) refl (found_in s window keys key)
  where
    by : (b : Bool) → bytes_eq x key ≡ b
        → value_at (map (λ k. point s window (Some k)) keys ++ overflow s window) key
        ≡ cond (has keys key) (Some (told s window key)) None
        → cond b (Some (told s window x))
        (value_at (map (λ k. point s window (Some k)) keys ++ overflow s window) key)
        ≡ cond (b || has keys key) (Some (told s window key)) None
    by true e rest = ap (λ (k : List ℕ). Some (told s window k)) (same_key x key e)
    by false e rest = rest

has_held : (s : Stream) (window : List Entry) (key : List ℕ) → IsHeld s window
    → has (ascending (held s window)) key ≡ has (all_series s.kept window) key
has_held s window key all =
    sym (list_any-IsPermutation (λ (other : List ℕ). bytes_eq other key) (held s window)
    (ascending (held s window)) (ascending-IsPermutation (held s window)))
    ∙ ap (λ (keys : List (List ℕ)). has keys key)
    (take_all s.limit (distinct (all_series s.kept window)) all)
    ∙ has-distinct (all_series s.kept window) key

value_of_series : (s : Stream) (window : List Entry) (key : List ℕ) → IsHeld s window
    → value_at (points s window) key
    ≡ cond (has (all_series s.kept window) key) (Some (told s window key)) None
value_of_series s window key all =
    found_in s window (ascending (held s window)) key
    ∙ ap (λ (b : Bool). cond b (Some (told s window key)) None) (has_held s window key all)

some_rows : (s : Stream) (of window : List Entry) (key : List ℕ)
    → has (all_series s.kept window) key ≡ true
    → 0 < length (filter (belongs s of (Some key)) window)
some_rows s of [] key h = absurd (true≢false (sym h))
some_rows s of (e ∷ window) key h =
    by (bytes_eq (series s.kept e) key) h (some_rows s of window key)
  where
    by : (b : Bool) → (b || has (all_series s.kept window) key) ≡ true
        → (has (all_series s.kept window) key ≡ true
        → 0 < length (filter (belongs s of (Some key)) window))
        → 0 < length (cond b (e ∷ filter (belongs s of (Some key)) window)
        (filter (belongs s of (Some key)) window))
    by true g rest = omega arith
    by false g rest = rest g

no_rows : (s : Stream) (of window : List Entry) (key : List ℕ)
    → has (all_series s.kept window) key ≡ false
    → filter (belongs s of (Some key)) window ≡ []
no_rows s of [] key h = refl
no_rows s of (e ∷ window) key h =
    by (bytes_eq (series s.kept e) key) h (no_rows s of window key)
  where
    by : (b : Bool) → (b || has (all_series s.kept window) key) ≡ false
        → (has (all_series s.kept window) key ≡ false
        → filter (belongs s of (Some key)) window ≡ [])
        → cond b (e ∷ filter (belongs s of (Some key)) window)
        (filter (belongs s of (Some key)) window) ≡ []
    by true g rest = absurd (true≢false g)
    by false g rest = rest g

pub each_together : (s : Stream) (xs ys zs : List Entry) → IsTrue (joins (stream_aggregation s))
    → Interleaves xs ys zs → IsHeld s xs → IsHeld s ys → IsHeld s zs
    → AreTogether (points s xs) (points s ys) (points s zs)
each_together s xs ys zs may r held_xs held_ys held_zs key =
    value_of_series s zs key held_zs
    ∙ ap (λ (b : Bool). cond b (Some (told s zs key)) None)
    (has_join (maps_join (series s.kept) r) key)
    ∙ by (has (all_series s.kept xs) key) (has (all_series s.kept ys) key) refl refl
    ∙ sym (ap (λ (a : Option PointValue). joined_at a (value_at (points s ys) key))
    (value_of_series s xs key held_xs)
    ∙ ap (joined_at (cond (has (all_series s.kept xs) key) (Some (told s xs key)) None))
    (value_of_series s ys key held_ys))
  where
    own : Interleaves (rows s xs (Some key)) (rows s ys (Some key)) (rows s zs (Some key))
    own =
        filters_join (belongs s xs (Some key)) (belongs s ys (Some key)) (belongs s zs (Some key))
        (λ e. refl) (λ e. refl) r

    by : (a b : Bool) → has (all_series s.kept xs) key ≡ a → has (all_series s.kept ys) key ≡ b
        → cond (a || b) (Some (told s zs key)) None
        ≡ joined_at (cond a (Some (told s xs key)) None) (cond b (Some (told s ys key)) None)
    by true true f g =
        let p : 0 < length (rows s xs (Some key)) = some_rows s xs xs key f in
        let q : 0 < length (rows s ys (Some key)) = some_rows s ys ys key g in
        ap Some (joins_values (stream_aggregation s) (values (rows s xs (Some key)))
        (values (rows s ys (Some key))) (values (rows s zs (Some key))) may
        (maps_join (λ (entry : Entry). entry.value) own)
        (omega (arith, p, length-map (rows s xs (Some key)) (λ (entry : Entry). entry.value)))
        (omega (arith, q, length-map (rows s ys (Some key)) (λ (entry : Entry). entry.value))))
    by true false f g =
        ap (λ (es : List Entry). Some (value_of (stream_aggregation s) (values es)))
        (alone_left own (no_rows s ys ys key g))
    by false true f g =
        ap (λ (es : List Entry). Some (value_of (stream_aggregation s) (values es)))
        (alone_right own (no_rows s xs xs key f))
    by false false f g = refl
