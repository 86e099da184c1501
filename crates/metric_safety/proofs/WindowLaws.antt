-- Every window of the recordings that an instrument of safe facts may have accepted is bounded, and the next such
-- recording fits.
use Rattle.std.proofs.Common.{◌≡◌, ◌≢◌, ℕ, zero, suc, ◌-◌, ◌^◌, ◌<◌, ◌≤◌, min, ℤ, ◌≤ℤ◌, Bool, true, false, ◌&&◌, ◌||◌, not, cond, List, [], ◌∷◌, ◌++◌, length, map, drop, get_or, All, AllPairs, Option, Some, None, refl, sym, ap, subst, ◌∙◌, arith}
use Rattle.std.specs.Prelude.{filter, sum_by, count_by, int_le, IsSome, IsTrue, ◌==◌}
use Rattle.std.specs.List.{AllByRecursion}
use Rattle.std.specs.Option.{option_map}
use Rattle.std.specs.Str.{bytes_eq}
use Rattle.std.proofs.lemmas.Bool.{and_parts, and_from, true≢false, eqb-true}
use Rattle.std.proofs.lemmas.Int.{ints}
use Rattle.std.proofs.lemmas.List.{append-nil, take_all, length-map, length_push, length-drop}
use Rattle.std.proofs.lemmas.List.Elements.{All-head, All-tail, All-weaker, All-map, All-filter}
use Rattle.std.proofs.lemmas.List.Folds.{list_any_none, list_all-append}
use Rattle.std.proofs.lemmas.List.Sorted.{All-permutation, length_permutation, sum_by-IsPermutation}
use Rattle.std.proofs.lemmas.List.Sums.{AllPass-from_list_all, list_all-from_AllPass, length-filter, count_by-le-length, get_or-le-sum_by, sum_by-cons}
use Rattle.metric_aggregate.specs.Bounds.{IsBetween}
use Rattle.metric_aggregate.specs.Range.{in_range}
use Rattle.metric_aggregate.specs.Value.{sum_of, value_of}
use Rattle.metric_bounds.specs.Sets.{count_or}
use Rattle.metric_bounds.specs.Sums.{keeps_sum_by}
use Rattle.metric_combinations.specs.Combinations.{allows, permits}
use Rattle.metric_combinations.specs.Restrictions.{restricted, restrictions}
use Rattle.metric_contents.specs.Kinds.{is_monotonic}
use Rattle.metric_contents.specs.declared.contents.Kind.{Kind}
use Rattle.metric_views.specs.declared.stream.Stream.{Stream}
use Rattle.metric_views.specs.declared.stream.StreamAggregation.{StreamAggregation}
use Rattle.metric_views.specs.declared.stream.StreamAggregation.TheVariants as aggregations
use Rattle.metric_history.specs.declared.batch.Point.{Point}
use Rattle.metric_history.specs.declared.batch.StreamPoints.{StreamPoints}
use Rattle.metric_history.specs.declared.entry.Entry.{Entry}
use Rattle.metric_facts.specs.declared.facts.Facts.{Facts}
use Rattle.metric_facts.specs.declared.facts.NumberedStream.{NumberedStream}
use Rattle.metric_facts.specs.Facts.{in_bounds, is_allowed_set, is_delta, is_full_set, is_of_reader}
use Rattle.metric_history.specs.Aggregations.{aggregation_of, stream_aggregation}
use Rattle.metric_history.specs.PointLaws.{ascending-IsPermutation}
use Rattle.metric_history.specs.Points.{ascending, overflow, point, points, reported, stream_points, values}
use Rattle.metric_history.specs.Series.{all_series, belongs, distinct, has, held, place_of, rows, series}
use Rattle.metric_history.specs.SeriesLaws.{same_key, key_is_same, has-distinct, has_own_series}
use Rattle.metric_history.specs.Windows.{window, fits_stream, fits_all}
use Rattle.metric_facts.specs.Products.{product_of}
use Rattle.metric_safety.specs.SafeFacts.{series_of, total, IsSafeStream, IsSafeFacts, is_admitted, are_admitted, IsJournal}
use Rattle.metric_safety.specs.WindowBounds.{IsValueWithin, is_histogram, count_in, sum_in, IsBounded, IsReportWithin}
use Rattle.metric_safety.proofs.SeriesBounds.{IsSeries, distinct_apart, All-distinct, length-distinct, listed_bounded, series_bounded}
use Rattle.metric_safety.proofs.Counts.{sum_by_same, sum_by-map, entries_counted, sum_of_same, entries_summed}
use Rattle.metric_safety.proofs.NumberLaws.{value_within, values_in_range}

-- what an admitted recording is
record IsAdmitted (facts : Facts) (entry : Entry) : Type 0 where
  long : length entry.set ≡ 8
  full : is_full_set facts.keys entry.set ≡ true
  allowed : permits facts.allowed entry.set ≡ true
  between : IsBetween facts.lo facts.hi entry.value

admitted : (facts : Facts) (entry : Entry) → is_admitted facts entry ≡ true → IsAdmitted facts entry
admitted facts entry e =
    let one = and_parts (length entry.set == 8) (is_allowed_set facts entry.set && in_bounds facts entry.value) e in
    let two = and_parts (is_allowed_set facts entry.set) (in_bounds facts entry.value) one.1 in
    let own = and_parts (is_full_set facts.keys entry.set) (permits facts.allowed entry.set) two.0 in
    let three = and_parts (int_le facts.lo entry.value) (int_le entry.value facts.hi) two.1 in
    record {
      long = eqb-true (length entry.set) 8 one.0;
      full = own.0;
      allowed = own.1;
      between = record { at_least = at_most facts.lo entry.value three.0; at_most = at_most entry.value facts.hi three.1 };
    }
  where
    at_most : (a b : ℤ) → int_le a b ≡ true → a ≤ℤ b
    at_most a b e = grind (arith, ints, e)

pub admitted_values : (facts : Facts) (entries : List Entry) → are_admitted facts entries ≡ true → AllByRecursion (IsBetween facts.lo facts.hi) (values entries)
admitted_values facts [] all = tt
admitted_values facts (entry ∷ entries) all =
    let parts = and_parts (is_admitted facts entry) (are_admitted facts entries) all in
    ((admitted facts entry parts.0).between, admitted_values facts entries parts.1)

-- some of the recordings are admitted as all are
pub admitted_filter : (facts : Facts) (test : Entry → Bool) (entries : List Entry) → are_admitted facts entries ≡ true → are_admitted facts (filter test entries) ≡ true
admitted_filter facts test [] all = refl
admitted_filter facts test (entry ∷ entries) all =
    let parts = and_parts (is_admitted facts entry) (are_admitted facts entries) all in
    at (test entry) parts.0 (admitted_filter facts test entries parts.1)
  where
    at : (b : Bool) → is_admitted facts entry ≡ true → are_admitted facts (filter test entries) ≡ true → are_admitted facts (cond b (entry ∷ filter test entries) (filter test entries)) ≡ true
    at true here rest = and_from (is_admitted facts entry) (are_admitted facts (filter test entries)) here rest
    at false here rest = rest

admitted_drop : (facts : Facts) (n : ℕ) (entries : List Entry) → are_admitted facts entries ≡ true → are_admitted facts (drop n entries) ≡ true
admitted_drop facts zero entries all = all
admitted_drop facts (suc n) [] all = refl
admitted_drop facts (suc n) (entry ∷ entries) all = admitted_drop facts n entries (and_parts (is_admitted facts entry) (are_admitted facts entries) all).1

pub admitted_window : (facts : Facts) (delta : Bool) (mark : ℕ) (journal : List Entry) → are_admitted facts journal ≡ true → are_admitted facts (window delta mark journal) ≡ true
admitted_window facts true mark journal all = admitted_drop facts mark journal all
admitted_window facts false mark journal all = all

pub length-window : (delta : Bool) (mark : ℕ) (journal : List Entry) → length (window delta mark journal) ≤ length journal
length-window true mark journal = omega (arith, length-drop mark journal)
length-window false mark journal = omega arith

pub few_rows : (test : Entry → Bool) (entries : List Entry) → length (filter test entries) ≤ length entries
few_rows test entries = omega (arith, length-filter test entries, count_by-le-length test entries)

-- the series of admitted recordings
all_are_series : (facts : Facts) (kept : List Bool) (entries : List Entry) → are_admitted facts entries ≡ true → All (IsSeries kept facts.keys) (all_series kept entries)
all_are_series facts kept entries all =
    All-map (IsSeries kept facts.keys) (series kept) entries
    (All-weaker (λ (e : Entry). is_admitted facts e ≡ true) (λ (e : Entry). IsSeries kept facts.keys (series kept e))
    (λ e passes. let own = admitted facts e passes in record { set = e.set; long = own.long; full = own.full; is = refl })
    entries (AllPass-from_list_all (is_admitted facts) entries all))

-- where combinations are listed, the sets of admitted recordings are among them
all_are_listed : (facts : Facts) (rows : List (List ℕ)) (entries : List Entry) → facts.allowed ≡ Some rows → are_admitted facts entries ≡ true
    → All (λ set. allows rows set ≡ true) (map (λ (e : Entry). e.set) entries)
all_are_listed facts rows entries listed all =
    All-map (λ set. allows rows set ≡ true) (λ (e : Entry). e.set) entries
    (All-weaker (λ (e : Entry). is_admitted facts e ≡ true) (λ (e : Entry). allows rows e.set ≡ true)
    (λ e passes. ap (λ (o : Option (List (List ℕ))). permits o e.set) (sym listed) ∙ (admitted facts e passes).allowed)
    entries (AllPass-from_list_all (is_admitted facts) entries all))

sets_restricted : (kept : List Bool) (entries : List Entry) → map (restricted kept) (map (λ (e : Entry). e.set) entries) ≡ all_series kept entries
sets_restricted kept [] = refl
sets_restricted kept (entry ∷ entries) = ap (λ (rest : List (List ℕ)). series kept entry ∷ rest) (sets_restricted kept entries)

-- a stream of safe facts has at most as many series as the keys or the listed combinations allow
few_distinct : (facts : Facts) (s : Stream) (entries : List Entry) → IsSafeStream facts s → are_admitted facts entries ≡ true → length (distinct (all_series s.kept entries)) ≤ series_of facts s
few_distinct facts s entries safe all = by facts.allowed refl
  where
    by : (o : Option (List (List ℕ))) → facts.allowed ≡ o → length (distinct (all_series s.kept entries)) ≤ count_or (product_of s.kept facts.keys) (option_map (restrictions s.kept) o)
    by None e = series_bounded s.kept facts.keys (all_series s.kept entries) safe.flags (all_are_series facts s.kept entries all)
    by (Some rows) e =
        subst (λ (keys : List (List ℕ)). length (distinct keys) ≤ length (restrictions s.kept rows)) (sets_restricted s.kept entries)
        (listed_bounded s.kept rows (map (λ (entry : Entry). entry.set) entries) (all_are_listed facts rows entries e all))

-- and at most as many as there are recordings
pub few_series : (facts : Facts) (s : Stream) (entries : List Entry) → IsSafeStream facts s → are_admitted facts entries ≡ true
    → length (distinct (all_series s.kept entries)) ≤ min (series_of facts s) (length entries)
few_series facts s entries safe all =
    omega (arith, few_distinct facts s entries safe all, length-distinct (all_series s.kept entries), length-map entries (series s.kept))

-- so it holds each of them
pub all_held : (facts : Facts) (s : Stream) (entries : List Entry) → IsSafeStream facts s → are_admitted facts entries ≡ true → length entries ≤ total facts
    → held s entries ≡ distinct (all_series s.kept entries)
all_held facts s entries safe all few =
    take_all s.limit (distinct (all_series s.kept entries)) (omega (arith, few_series facts s entries safe all, few, safe.series))

none_over : (facts : Facts) (s : Stream) (entries : List Entry) → IsSafeStream facts s → are_admitted facts entries ≡ true → length entries ≤ total facts
    → All (λ (e : Entry). belongs s entries None e ≡ false) entries
none_over facts s entries safe all few k d inside =
    let key : List ℕ = series s.kept (get_or entries k d) in
    ap not (ap (λ (keys : List (List ℕ)). has keys key) (all_held facts s entries safe all few)
    ∙ has-distinct (all_series s.kept entries) key
    ∙ has_own_series s.kept entries k d inside)

filter_none : (test : Entry → Bool) (entries : List Entry) → All (λ (e : Entry). test e ≡ false) entries → filter test entries ≡ []
filter_none test [] all = refl
filter_none test (e ∷ entries) all =
    ap (λ (b : Bool). cond b (e ∷ filter test entries) (filter test entries)) (All-head (λ (e : Entry). test e ≡ false) e entries all)
    ∙ filter_none test entries (All-tail (λ (e : Entry). test e ≡ false) e entries all)

-- the series in the order of their points
abbrev pub reported_series : Stream → List Entry → List (List ℕ)
reported_series s entries = ascending (distinct (all_series s.kept entries))

abbrev pub series_point : Stream → List Entry → List ℕ → Point
series_point s entries key = point s entries (Some key)

-- the points are those of the series
pub points_are : (facts : Facts) (s : Stream) (entries : List Entry) → IsSafeStream facts s → are_admitted facts entries ≡ true → length entries ≤ total facts
    → points s entries ≡ map (series_point s entries) (reported_series s entries)
points_are facts s entries safe all few =
    ap (λ (keys : List (List ℕ)). map (series_point s entries) (ascending keys) ++ overflow s entries) (all_held facts s entries safe all few)
    ∙ ap (λ (b : Bool). map (series_point s entries) (reported_series s entries) ++ cond b (point s entries None ∷ []) [])
    (list_any_none (belongs s entries None) entries (none_over facts s entries safe all few))
    ∙ append-nil (map (series_point s entries) (reported_series s entries))

-- each series has a recording
pub has_row : (s : Stream) (entries : List Entry) → All (λ (key : List ℕ). 1 ≤ length (rows s entries (Some key))) (reported_series s entries)
has_row s entries =
    All-permutation (λ (key : List ℕ). 1 ≤ length (rows s entries (Some key))) (distinct (all_series s.kept entries)) (reported_series s entries) (ascending-IsPermutation (distinct (all_series s.kept entries)))
    (All-distinct (λ (key : List ℕ). 1 ≤ length (rows s entries (Some key))) (all_series s.kept entries)
    (All-map (λ (key : List ℕ). 1 ≤ length (rows s entries (Some key))) (series s.kept) entries
    (λ k d inside. own (get_or entries k d) (get_or-le-sum_by (λ (e : Entry). cond (bytes_eq (series s.kept e) (series s.kept (get_or entries k d))) 1 0) entries k d inside))))
  where
    own : (entry : Entry) → cond (bytes_eq (series s.kept entry) (series s.kept entry)) 1 0 ≤ count_by (λ (e : Entry). bytes_eq (series s.kept e) (series s.kept entry)) entries
        → 1 ≤ length (rows s entries (Some (series s.kept entry)))
    own entry counted =
        let here : cond (bytes_eq (series s.kept entry) (series s.kept entry)) 1 0 ≡ 1 = ap {B = ℕ} (λ (b : Bool). cond b 1 0) (key_is_same (series s.kept entry)) in
        omega (arith, counted, here, length-filter (λ (e : Entry). bytes_eq (series s.kept e) (series s.kept entry)) entries)

-- a key stands once among keys of which no two are equal
count_none : (x : List ℕ) (keys : List (List ℕ)) → All (λ key. x ≢ key) keys → count_by (bytes_eq x) keys ≡ 0
count_none x [] apart = refl
count_none x (key ∷ keys) apart = at (bytes_eq x key) refl (count_none x keys (All-tail (λ key. x ≢ key) key keys apart))
  where
    at : (b : Bool) → bytes_eq x key ≡ b → count_by (bytes_eq x) keys ≡ 0 → count_by (bytes_eq x) (key ∷ keys) ≡ 0
    at true e rest = absurd (All-head (λ key. x ≢ key) key keys apart (same_key x key e))
    at false e rest = omega (arith, sum_by-cons (λ key. cond (bytes_eq x key) 1 0) key keys, rest, ap {B = ℕ} (λ (b : Bool). cond b 1 0) e)

count_one : (x : List ℕ) (keys : List (List ℕ)) → AllPairs (λ a b. a ≢ b) keys → has keys x ≡ true → count_by (bytes_eq x) keys ≡ 1
count_one x [] apart some = absurd (true≢false (sym some))
count_one x (key ∷ keys) apart some = at (bytes_eq key x) refl some (count_one x keys (λ i j d before inside. apart (suc i) (suc j) d (omega arith) (omega arith)))
  where
    unlike : All (λ other. key ≢ other) keys
    unlike = λ k d inside. apart zero (suc k) d (omega arith) (omega arith)

    swapped : (a b : List ℕ) → bytes_eq a b ≡ false → (t : Bool) → bytes_eq b a ≡ t → t ≡ false
    swapped a b e true f = absurd (true≢false (sym (key_is_same a) ∙ ap (bytes_eq a) (sym (same_key b a f)) ∙ e))
    swapped a b e false f = refl

    at : (b : Bool) → bytes_eq key x ≡ b → (b || has keys x) ≡ true → (has keys x ≡ true → count_by (bytes_eq x) keys ≡ 1) → count_by (bytes_eq x) (key ∷ keys) ≡ 1
    at true e some rest =
        let same : key ≡ x = same_key key x e in
        let first : bytes_eq x key ≡ true = ap (bytes_eq x) same ∙ key_is_same x in
        omega (arith, sum_by-cons (λ k. cond (bytes_eq x k) 1 0) key keys, ap {B = ℕ} (λ (b : Bool). cond b 1 0) first, count_none x keys (subst (λ k. All (λ other. k ≢ other) keys) same unlike))
    at false e some rest =
        let first : bytes_eq x key ≡ false = swapped key x e (bytes_eq x key) refl in
        omega (arith, sum_by-cons (λ k. cond (bytes_eq x k) 1 0) key keys, ap {B = ℕ} (λ (b : Bool). cond b 1 0) first, rest some)

one_key : (s : Stream) (entries : List Entry) → All (λ (e : Entry). count_by (bytes_eq (series s.kept e)) (reported_series s entries) ≡ 1) entries
one_key s entries k d inside =
    sum_by-IsPermutation (λ key. cond (bytes_eq (series s.kept (get_or entries k d)) key) 1 0) (distinct (all_series s.kept entries)) (reported_series s entries) (ascending-IsPermutation (distinct (all_series s.kept entries)))
    ∙ count_one (series s.kept (get_or entries k d)) (distinct (all_series s.kept entries)) (distinct_apart (all_series s.kept entries))
    (has-distinct (all_series s.kept entries) (series s.kept (get_or entries k d)) ∙ has_own_series s.kept entries k d inside)

-- a window of admitted recordings, no more than the budgets allow, is bounded
pub window_bounded : (facts : Facts) (s : Stream) (entries : List Entry) → IsSafeStream facts s → are_admitted facts entries ≡ true → length entries ≤ total facts → IsBounded facts s entries
window_bounded facts s entries safe all few =
    let are = points_are facts s entries safe all few in
    record {
      series = few_series facts s entries safe all;
      one_point_each = ap length are ∙ length-map (reported_series s entries) (series_point s entries)
          ∙ length_permutation (distinct (all_series s.kept entries)) (reported_series s entries) (ascending-IsPermutation (distinct (all_series s.kept entries)));
      no_rest = filter_none (belongs s entries None) entries (none_over facts s entries safe all few);
      no_overflow = subst (All (λ (p : Point). IsSome p.set)) (sym are) (All-map (λ (p : Point). IsSome p.set) (series_point s entries) (reported_series s entries) (λ k d inside. refl));
      numbers = subst (All (λ (p : Point). IsValueWithin facts (length entries) p.value)) (sym are)
          (All-map (λ (p : Point). IsValueWithin facts (length entries) p.value) (series_point s entries) (reported_series s entries)
          (All-weaker (λ (key : List ℕ). 1 ≤ length (rows s entries (Some key))) (λ (key : List ℕ). IsValueWithin facts (length entries) (series_point s entries key).value) within (reported_series s entries) (has_row s entries)));
      counted = λ kind. ap (sum_by (λ (p : Point). count_in p.value)) are
          ∙ sum_by-map (λ (p : Point). count_in p.value) (series_point s entries) (reported_series s entries)
          ∙ sum_by_same (λ key. count_in (series_point s entries key).value) (λ key. length (rows s entries (Some key))) (λ key. count_at s.aggregation (is_monotonic s.kind) kind (rows s entries (Some key))) (reported_series s entries)
          ∙ entries_counted (λ e key. bytes_eq (series s.kept e) key) (reported_series s entries) entries (one_key s entries);
      summed = λ kind. ap (λ (all : List Point). sum_of (map (λ (p : Point). sum_in p.value) all)) are
          ∙ ap sum_of (map-map (reported_series s entries))
          ∙ sum_of_same (λ key. sum_in (series_point s entries key).value) (λ key. sum_of (values (rows s entries (Some key)))) (λ key. sum_at s.aggregation s.kind kind (rows s entries (Some key))) (reported_series s entries)
          ∙ entries_summed (λ e key. bytes_eq (series s.kept e) key) (reported_series s entries) entries (one_key s entries);
    }
  where
    within : (key : List ℕ) → 1 ≤ length (rows s entries (Some key)) → IsValueWithin facts (length entries) (series_point s entries key).value
    within key some =
        let long = length-map (rows s entries (Some key)) (λ (e : Entry). e.value) in
        value_within facts (stream_aggregation s) (length entries) (values (rows s entries (Some key)))
        (admitted_values facts (rows s entries (Some key)) (admitted_filter facts (belongs s entries (Some key)) entries all))
        (omega (arith, some, long)) (omega (arith, long, few_rows (belongs s entries (Some key)) entries))

    count_at : (aggregation : StreamAggregation) (keeps : Bool) → IsTrue (is_histogram aggregation) → (own : List Entry) → count_in (value_of (aggregation_of aggregation keeps) (values own)) ≡ length own
    count_at aggregations.Sum keeps e own = absurd (true≢false (sym e))
    count_at aggregations.LastValue keeps e own = absurd (true≢false (sym e))
    count_at (aggregations.Histogram boundaries) keeps e own = length-map own (λ (e : Entry). e.value)

    kept_at : (boundaries : List ℤ) (keeps : Bool) → IsTrue keeps → (own : List Entry) → sum_in (value_of (aggregation_of (aggregations.Histogram boundaries) keeps) (values own)) ≡ sum_of (values own)
    kept_at boundaries true e own = refl
    kept_at boundaries false e own = absurd (true≢false (sym e))

    sum_at : (aggregation : StreamAggregation) (kind : Kind) → IsTrue (keeps_sum_by aggregation kind) → (own : List Entry)
        → sum_in (value_of (aggregation_of aggregation (is_monotonic kind)) (values own)) ≡ sum_of (values own)
    sum_at aggregations.Sum kind e own = refl
    sum_at aggregations.LastValue kind e own = absurd (true≢false (sym e))
    sum_at (aggregations.Histogram boundaries) kind e own = kept_at boundaries (is_monotonic kind) e own

    map-map : (keys : List (List ℕ)) → map (λ (p : Point). sum_in p.value) (map (series_point s entries) keys) ≡ map (λ key. sum_in (series_point s entries key).value) keys
    map-map [] = refl
    map-map (key ∷ keys) = ap (λ (rest : List ℤ). sum_in (series_point s entries key).value ∷ rest) (map-map keys)

-- the recordings of a series are in range
rows_fit : (facts : Facts) (s : Stream) (entries : List Entry) (place : Option (List ℕ)) → IsSafeStream facts s → total facts < 2 ^ 64 → are_admitted facts entries ≡ true
    → length entries ≤ total facts → in_range (stream_aggregation s) (values (rows s entries place)) ≡ true
rows_fit facts s entries place safe counts all few =
    values_in_range facts s (values (rows s entries place)) safe counts
    (admitted_values facts (rows s entries place) (admitted_filter facts (belongs s entries place) entries all))
    (omega (arith, length-map (rows s entries place) (λ (e : Entry). e.value), few, few_rows (belongs s entries place) entries))

-- a stream takes one recording more of those that the budgets allow
stream_fits : (facts : Facts) (s : Stream) (entries : List Entry) (entry : Entry) → IsSafeStream facts s → total facts < 2 ^ 64 → are_admitted facts (entries ++ entry ∷ []) ≡ true
    → length (entries ++ entry ∷ []) ≤ total facts → fits_stream s entries entry ≡ true
stream_fits facts s entries entry safe counts all few = rows_fit facts s (entries ++ entry ∷ []) (place_of s (entries ++ entry ∷ []) entry) safe counts all few

-- a window of a journal with one recording more is that of the journal with it
longer_window : (facts : Facts) (delta : Bool) (mark : ℕ) (journal : List Entry) (entry : Entry) → are_admitted facts (journal ++ entry ∷ []) ≡ true
    → are_admitted facts (window delta mark journal ++ entry ∷ []) ≡ true
longer_window facts delta mark journal entry all =
    let parts = and_parts (are_admitted facts journal) (are_admitted facts (entry ∷ [])) (sym (list_all-append (is_admitted facts) journal (entry ∷ [])) ∙ all) in
    list_all-append (is_admitted facts) (window delta mark journal) (entry ∷ [])
    ∙ and_from (are_admitted facts (window delta mark journal)) (are_admitted facts (entry ∷ [])) (admitted_window facts delta mark journal parts.0) parts.1

window_fits : (facts : Facts) (s : Stream) (delta : Bool) (mark : ℕ) (journal : List Entry) (entry : Entry) → IsSafeStream facts s → total facts < 2 ^ 64 → IsJournal facts (journal ++ entry ∷ [])
    → fits_stream s (window delta mark journal) entry ≡ true
window_fits facts s delta mark journal entry safe counts own =
    stream_fits facts s (window delta mark journal) entry safe counts (longer_window facts delta mark journal entry own.admitted)
    (omega (arith, own.budgeted, length_push journal entry, length_push (window delta mark journal) entry, length-window delta mark journal))

-- Every window of a journal is bounded for each stream.
pub journal_bounded : (facts : Facts) (journal : List Entry) (delta : Bool) (mark : ℕ) → IsSafeFacts facts → IsJournal facts journal
    → All (λ (s : NumberedStream). IsBounded facts s.stream (window delta mark journal)) facts.streams
journal_bounded facts journal delta mark safe own =
    All-weaker (λ (s : NumberedStream). IsSafeStream facts s.stream) (λ (s : NumberedStream). IsBounded facts s.stream (window delta mark journal))
    (λ s fit. window_bounded facts s.stream (window delta mark journal) fit (admitted_window facts delta mark journal own.admitted) (omega (arith, length-window delta mark journal, own.budgeted)))
    facts.streams safe.streams

-- One recording more that the budgets allow fits each stream, whatever the marks: it is never refused for its sums.
pub journal_fits : (facts : Facts) (journal : List Entry) (entry : Entry) (mark : ℕ → ℕ) → IsSafeFacts facts → IsJournal facts (journal ++ entry ∷ []) → fits_all facts mark journal entry ≡ true
journal_fits facts journal entry mark safe own =
    list_all-from_AllPass (λ (s : NumberedStream). fits_stream s.stream (window (is_delta facts s.stream.reader) (mark s.stream.reader) journal) entry) facts.streams
    (All-weaker (λ (s : NumberedStream). IsSafeStream facts s.stream) (λ (s : NumberedStream). fits_stream s.stream (window (is_delta facts s.stream.reader) (mark s.stream.reader) journal) entry ≡ true)
    (λ s fit. window_fits facts s.stream (is_delta facts s.stream.reader) (mark s.stream.reader) journal entry fit safe.counts own) facts.streams safe.streams)

-- how many recordings a window has
pub window_is_long : (delta : Bool) (mark : ℕ) (journal : List Entry) → length (window delta mark journal) ≡ length journal - cond delta mark 0
window_is_long true mark journal = length-drop mark journal
window_is_long false mark journal = omega arith

-- what holds of the points of each stream of an instrument holds of what a reader is told
pub all_reported : (P : StreamPoints → Type 0) (facts : Facts) (reader : ℕ) (entries : List Entry) → All (λ (s : NumberedStream). P (stream_points entries s)) facts.streams
    → All P (reported facts reader entries)
all_reported P facts reader entries all =
    All-map P (stream_points entries) (filter (is_of_reader reader) facts.streams) (All-filter (is_of_reader reader) (λ (s : NumberedStream). P (stream_points entries s)) facts.streams all)

-- what is told of bounded streams
told_within : (facts : Facts) (reader : ℕ) (entries : List Entry) (from mark : ℕ) → length entries ≡ mark - from → mark ≤ total facts → All (λ (s : NumberedStream). IsBounded facts s.stream entries) facts.streams
    → IsReportWithin facts from mark (reported facts reader entries)
told_within facts reader entries from mark long budgeted all = record {
  budgeted = budgeted;
  no_overflow = all_reported (λ (s : StreamPoints). All (λ (p : Point). IsSome p.set) s.points) facts reader entries
      (All-weaker (λ (s : NumberedStream). IsBounded facts s.stream entries) (λ (s : NumberedStream). All (λ (p : Point). IsSome p.set) (points s.stream entries)) (λ s b. b.no_overflow) facts.streams all);
  few = all_reported (λ (s : StreamPoints). length s.points ≤ mark - from) facts reader entries
      (All-weaker (λ (s : NumberedStream). IsBounded facts s.stream entries) (λ (s : NumberedStream). length (points s.stream entries) ≤ mark - from) (λ s b. few s b) facts.streams all);
  numbers = all_reported (λ (s : StreamPoints). All (λ (p : Point). IsValueWithin facts (mark - from) p.value) s.points) facts reader entries
      (All-weaker (λ (s : NumberedStream). IsBounded facts s.stream entries) (λ (s : NumberedStream). All (λ (p : Point). IsValueWithin facts (mark - from) p.value) (points s.stream entries)) (λ s b. numbers s b) facts.streams all);
}
  where
    few : (s : NumberedStream) → IsBounded facts s.stream entries → length (points s.stream entries) ≤ mark - from
    few s b = omega (arith, b.one_point_each, b.series, long)

    numbers : (s : NumberedStream) → IsBounded facts s.stream entries → All (λ (p : Point). IsValueWithin facts (mark - from) p.value) (points s.stream entries)
    numbers s b = subst (λ (n : ℕ). All (λ (p : Point). IsValueWithin facts n p.value) (points s.stream entries)) long b.numbers

-- What a reader is told of a journal is within the bounds.
pub report_within : (facts : Facts) (journal : List Entry) (reader mark : ℕ) → IsSafeFacts facts → IsJournal facts journal
    → IsReportWithin facts (cond (is_delta facts reader) mark 0) (length journal) (reported facts reader (window (is_delta facts reader) mark journal))
report_within facts journal reader mark safe own =
    told_within facts reader (window (is_delta facts reader) mark journal) (cond (is_delta facts reader) mark 0) (length journal)
    (window_is_long (is_delta facts reader) mark journal) own.budgeted (journal_bounded facts journal (is_delta facts reader) mark safe own)
