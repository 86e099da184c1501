-- How the held series of a window, and the recordings of each series, change with one recording more.
use Rattle.std.proofs.Common.{◌≡◌, ℕ, ◌+◌, ◌<◌, ◌≤◌, Bool, true, false, not, ◌||◌, cond, List, [], ◌∷◌, ◌++◌, Some, None, length, take, get_or, refl, sym, ap, ◌∙◌, arith}
use Rattle.std.specs.Prelude.{filter, nat_le}
use Rattle.std.specs.List.{list_any}
use Rattle.std.specs.Str.{bytes_eq}
use Rattle.std.proofs.Math.Seq.{take-append_seam}
use Rattle.std.proofs.lemmas.Bool.{or_right, true≢false}
use Rattle.std.proofs.lemmas.Bool.Decides.{nat_tests}
use Rattle.std.proofs.lemmas.List.{append-nil, get_or_push, length_push, length-take, map_push, take_all}
use Rattle.std.proofs.lemmas.List.Elements.{filter-append}
use Rattle.metric_aggregate.specs.Range.{in_range}
use Rattle.metric_history.specs.Aggregations.{stream_aggregation}
use Rattle.metric_history.specs.declared.entry.Entry.{Entry}
use Rattle.metric_history.specs.Points.{values}
use Rattle.metric_history.specs.PointLaws.{held_more}
use Rattle.metric_views.specs.declared.stream.Stream.{Stream}
use Rattle.metric_history.specs.Series.{series, all_series, has, found_within, distinct, held, belongs, rows, place_found}
use Rattle.metric_history.specs.SeriesLaws.{distinct_push, has-distinct, has_all_series, key_is_same}
use Rattle.metric_history.specs.SumLaws.{rows_push}
use Rattle.metric_history.specs.Windows.{fits_stream}

held_push : (s : Stream) (window : List Entry) (entry : Entry) → held s (window ++ entry ∷ []) ≡ found_within s.limit (held s window) (series s.kept entry)
held_push s window entry =
    sym (ap (held s) (take_all (length window + 1) (window ++ entry ∷ []) (omega (arith, length_push window entry))))
    ∙ held_more s.kept s.limit (window ++ entry ∷ []) (length window) entry (omega (arith, length_push window entry))
    ∙ ap (λ (es : List Entry). found_within s.limit (held s es) (series s.kept (get_or (window ++ entry ∷ []) (length window) entry))) (take-append_seam window (entry ∷ []))
    ∙ ap (λ (e : Entry). found_within s.limit (held s window) (series s.kept e)) (get_or_push window entry entry (length window) refl)

-- a recording of a held series changes none of them
pub held-known : (s : Stream) (window : List Entry) (entry : Entry) → has (held s window) (series s.kept entry) ≡ true → held s (window ++ entry ∷ []) ≡ held s window
held-known s window entry known =
    held_push s window entry
    ∙ ap (λ (b : Bool). cond (nat_le s.limit (length (held s window)) || b) (held s window) (held s window ++ series s.kept entry ∷ [])) known
    ∙ either (nat_le s.limit (length (held s window)))
  where
    either : (b : Bool) → cond (b || true) (held s window) (held s window ++ series s.kept entry ∷ []) ≡ held s window
    either true = refl
    either false = refl

-- nor does one where no place is left
pub held-full : (s : Stream) (window : List Entry) (entry : Entry) → s.limit ≤ length (held s window) → held s (window ++ entry ∷ []) ≡ held s window
held-full s window entry full =
    let none_left : nat_le s.limit (length (held s window)) ≡ true = grind (arith, nat_tests) in
    held_push s window entry
    ∙ ap (λ (b : Bool). cond (b || has (held s window) (series s.kept entry)) (held s window) (held s window ++ series s.kept entry ∷ [])) none_left

-- the series of any other recording comes last
pub held-new : (s : Stream) (window : List Entry) (entry : Entry) → length (held s window) < s.limit → has (held s window) (series s.kept entry) ≡ false
    → held s (window ++ entry ∷ []) ≡ held s window ++ series s.kept entry ∷ []
held-new s window entry room new =
    let some_left : nat_le s.limit (length (held s window)) ≡ false = grind (arith, nat_tests) in
    held_push s window entry
    ∙ ap (λ (b : Bool). cond (b || has (held s window) (series s.kept entry)) (held s window) (held s window ++ series s.kept entry ∷ [])) some_left
    ∙ ap (λ (b : Bool). cond b (held s window) (held s window ++ series s.kept entry ∷ [])) new

-- the place that the recording finds
pub place_found_is : (s : Stream) (window : List Entry) (entry : Entry) (b : Bool) → has (held s (window ++ entry ∷ [])) (series s.kept entry) ≡ b
    → place_found s window entry ≡ cond b (Some (series s.kept entry)) None
place_found_is s window entry b e =
    ap (λ (keys : List (List ℕ)). cond (has (take s.limit (distinct keys)) (series s.kept entry)) (Some (series s.kept entry)) None) (sym (map_push (series s.kept) window entry))
    ∙ ap (λ (t : Bool). cond t (Some (series s.kept entry)) None) e

-- it fits where the recordings of that place are in range with it
pub fits_where_found : (s : Stream) (window : List Entry) (entry : Entry)
    → fits_stream s window entry ≡ in_range (stream_aggregation s) (values (rows s window (place_found s window entry)) ++ entry.value ∷ [])
fits_where_found s window entry =
    ap (λ (keys : List (List ℕ)). in_range (stream_aggregation s) (values (rows s (window ++ entry ∷ []) (cond (has (take s.limit (distinct keys)) (series s.kept entry)) (Some (series s.kept entry)) None))))
    (map_push (series s.kept) window entry)
    ∙ ap (λ (es : List Entry). in_range (stream_aggregation s) (values es)) (rows_push s window entry)
    ∙ ap (in_range (stream_aggregation s)) (map_push (λ (e : Entry). e.value) (rows s window (place_found s window entry)) entry)

pub values_where_found : (s : Stream) (window : List Entry) (entry : Entry)
    → values (rows s window (place_found s window entry)) ++ entry.value ∷ [] ≡ values (rows s (window ++ entry ∷ []) (place_found s window entry))
values_where_found s window entry =
    sym (ap values (rows_push s window entry) ∙ map_push (λ (e : Entry). e.value) (rows s window (place_found s window entry)) entry)

-- another series has the recordings that it had
pub rows-other : (s : Stream) (window : List Entry) (entry : Entry) (key : List ℕ) → bytes_eq (series s.kept entry) key ≡ false
    → rows s (window ++ entry ∷ []) (Some key) ≡ rows s window (Some key)
rows-other s window entry key other =
    filter-append (λ (e : Entry). bytes_eq (series s.kept e) key) window (entry ∷ [])
    ∙ ap (λ (b : Bool). filter (λ (e : Entry). bytes_eq (series s.kept e) key) window ++ cond b (entry ∷ []) []) other
    ∙ append-nil (filter (λ (e : Entry). bytes_eq (series s.kept e) key) window)

-- and so has the overflow series, where the recording is of a held series
pub rest-known : (s : Stream) (window : List Entry) (entry : Entry) → has (held s window) (series s.kept entry) ≡ true
    → rows s (window ++ entry ∷ []) None ≡ rows s window None
rest-known s window entry known =
    ap (λ (keys : List (List ℕ)). filter (λ (e : Entry). not (has keys (series s.kept e))) (window ++ entry ∷ [])) (held-known s window entry known)
    ∙ filter-append (belongs s window None) window (entry ∷ [])
    ∙ ap (λ (b : Bool). filter (belongs s window None) window ++ cond (not b) (entry ∷ []) []) known
    ∙ append-nil (filter (belongs s window None) window)

none_left : (kept : List Bool) (found : List (List ℕ)) (entries : List Entry) → ((key : List ℕ) → has (all_series kept entries) key ≡ true → has found key ≡ true)
    → filter (λ (e : Entry). not (has found (series kept e))) entries ≡ []
none_left kept found [] all = refl
none_left kept found (e ∷ entries) all =
    let own : has (all_series kept (e ∷ entries)) (series kept e) ≡ true = ap (λ (b : Bool). b || has (all_series kept entries) (series kept e)) (key_is_same (series kept e)) in
    ap (λ (b : Bool). cond (not b) (e ∷ filter (λ (x : Entry). not (has found (series kept x))) entries) (filter (λ (x : Entry). not (has found (series kept x))) entries)) (all (series kept e) own)
    ∙ none_left kept found entries (λ key known. all key (or_right (bytes_eq (series kept e) key) (has (all_series kept entries) key) known))

-- few distinct series are all held
rest-few : (s : Stream) (window : List Entry) → length (distinct (all_series s.kept window)) ≤ s.limit → rows s window None ≡ []
rest-few s window few =
    none_left s.kept (held s window) window
    (λ key known. ap (λ (keys : List (List ℕ)). has keys key) (take_all s.limit (distinct (all_series s.kept window)) few) ∙ has-distinct (all_series s.kept window) key ∙ known)

few_where_room : (s : Stream) (window : List Entry) → length (held s window) < s.limit → length (distinct (all_series s.kept window)) < s.limit
few_where_room s window room = omega (arith, room, length-take s.limit (distinct (all_series s.kept window)))

few_more : (keys : List (List ℕ)) (key : List ℕ) → length (distinct (keys ++ key ∷ [])) ≤ length (distinct keys) + 1
few_more keys key = rw (distinct_push keys key) (at (has (distinct keys) key))
  where
    at : (b : Bool) → length (cond b (distinct keys) (distinct keys ++ key ∷ [])) ≤ length (distinct keys) + 1
    at true = omega arith
    at false = omega (arith, length_push (distinct keys) key)

-- where a place is left nothing overflows
pub rest-room : (s : Stream) (window : List Entry) → length (held s window) < s.limit → rows s window None ≡ []
rest-room s window room = rest-few s window (omega (arith, few_where_room s window room))

-- nor does one recording more
pub rest-new : (s : Stream) (window : List Entry) (entry : Entry) → length (held s window) < s.limit → rows s (window ++ entry ∷ []) None ≡ []
rest-new s window entry room =
    let few : length (distinct (all_series s.kept window ++ series s.kept entry ∷ [])) ≤ s.limit =
    omega (arith, few_where_room s window room, few_more (all_series s.kept window) (series s.kept entry)) in
    rest-few s (window ++ entry ∷ []) (rw (map_push (series s.kept) window entry) few)

filter_none : (p : Entry → Bool) (entries : List Entry) → list_any p entries ≡ false → filter p entries ≡ []
filter_none p [] none = refl
filter_none p (e ∷ entries) none = at (p e) none (filter_none p entries)
  where
    at : (b : Bool) → (b || list_any p entries) ≡ false → (list_any p entries ≡ false → filter p entries ≡ []) → cond b (e ∷ filter p entries) (filter p entries) ≡ []
    at true h rest = absurd (true≢false h)
    at false h rest = rest h

-- a series that is not held, though a place is left, has no recording
pub rows-new : (s : Stream) (window : List Entry) (key : List ℕ) → length (held s window) < s.limit → has (held s window) key ≡ false → rows s window (Some key) ≡ []
rows-new s window key room new =
    let keys : List (List ℕ) = all_series s.kept window in
    let all : held s window ≡ distinct (all_series s.kept window) = take_all s.limit (distinct (all_series s.kept window)) (omega (arith, few_where_room s window room)) in
    filter_none (λ (e : Entry). bytes_eq (series s.kept e) key) window
    (sym (has_all_series s.kept window key) ∙ sym (has-distinct keys key) ∙ sym (ap (λ (ks : List (List ℕ)). has ks key) all) ∙ new)
