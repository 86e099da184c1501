-- How the rows of a place and their sum change with a recording more.
use Rattle.std.proofs.Common.{◌≡◌, ℕ, ◌+◌, ◌^◌, ◌<◌, ℤ, pos, ◌+ℤ◌, Bool, true, false, not, ◌||◌}
use Rattle.std.proofs.Common.{◌&&◌, cond, List, [], ◌∷◌, ◌++◌, Option, Some, None, length, take}
use Rattle.std.proofs.Common.{get_or, refl, ap, ◌∙◌, arith}
use Rattle.std.specs.Prelude.{filter, nat_lt}
use Rattle.std.proofs.lemmas.Bool.Decides.{nat_tests}
use Rattle.std.proofs.lemmas.Int.{ints}
use Rattle.std.proofs.lemmas.List.{map_push, append-nil, length-map, length_push}
use Rattle.std.proofs.lemmas.List.Sums.{length-filter, count_by-le-length}
use Rattle.std.proofs.lemmas.List.Elements.{filter-append, filter_agree, filter_more}
use Rattle.metric_aggregate.specs.Aggregation.{Aggregation, SumAggregation, LastValueAggregation}
use Rattle.metric_aggregate.specs.Aggregation.{HistogramAggregation}
use Rattle.metric_aggregate.specs.Range.{fits_i64, in_range, sum_in_range}
use Rattle.metric_aggregate.specs.Value.{sum_of}
use Rattle.metric_aggregate.specs.ValueLaws.{sum_of-push}
use Rattle.metric_history.specs.declared.entry.Entry.{Entry}
use Rattle.metric_views.specs.declared.stream.Stream.{Stream}
use Rattle.metric_history.specs.Aggregations.{stream_aggregation}
use Rattle.metric_history.specs.Series.{series, all_series, has, distinct, held, belongs, rows}
use Rattle.metric_history.specs.Series.{place_of, place_found}
use Rattle.metric_history.specs.SeriesLaws.{key_is_same, held_same}
use Rattle.metric_history.specs.Points.{values}
use Rattle.metric_history.specs.Windows.{fits_stream}

pub sum_push : (entries : List Entry) (entry : Entry)
    → sum_of (values (entries ++ entry ∷ [])) ≡ sum_of (values entries) +ℤ entry.value
sum_push entries entry =
    ap sum_of (map_push (λ (e : Entry). e.value) entries entry)
    ∙ sum_of-push (values entries) entry.value

-- the sum of the rows among the first recordings, with one more
pub sum_more : (p : Entry → Bool) (window : List Entry) (i : ℕ) (d : Entry) → i < length window
    → sum_of (values (filter p (take (i + 1) window))) ≡ sum_of (values (filter p (take i window)))
    +ℤ cond (p (get_or window i d)) (get_or window i d).value (pos 0)
sum_more p window i d l =
    ap (λ (es : List Entry). sum_of (values es)) (filter_more p window i d l)
    ∙ at (p (get_or window i d))
  where
    at : (b : Bool)
        → sum_of (values (filter p (take i window) ++ cond b (get_or window i d ∷ []) []))
        ≡ sum_of (values (filter p (take i window))) +ℤ cond b (get_or window i d).value (pos 0)
    at true = sum_push (filter p (take i window)) (get_or window i d)
    at false =
        ap (λ (es : List Entry). sum_of (values es)) (append-nil (filter p (take i window)))
        ∙ omega (arith, ints)

place_of_is : (s : Stream) (window : List Entry) (entry : Entry)
    → place_of s (window ++ entry ∷ []) entry ≡ place_found s window entry
place_of_is s window entry =
    ap (λ (keys : List (List ℕ)). cond (has (take s.limit (distinct keys)) (series s.kept entry))
    (Some (series s.kept entry)) None) (map_push (series s.kept) window entry)

-- the rows of the place that a recording finds, with it
pub rows_push : (s : Stream) (window : List Entry) (entry : Entry)
    → rows s (window ++ entry ∷ []) (place_found s window entry)
    ≡ rows s window (place_found s window entry) ++ entry ∷ []
rows_push s window entry =
    at (has (take s.limit (distinct (all_series s.kept window ++ series s.kept entry ∷ [])))
    (series s.kept entry)) refl
  where
    split : (p q : Entry → Bool) → ((e : Entry) → p e ≡ q e) → p entry ≡ true
        → filter p (window ++ entry ∷ []) ≡ filter q window ++ entry ∷ []
    split p q same own =
        filter-append p window (entry ∷ [])
        ∙ ap (λ (es : List Entry). es ++ cond (p entry) (entry ∷ []) [])
        (filter_agree p q same window)
        ∙ ap (λ (b : Bool). filter q window ++ cond b (entry ∷ []) []) own

    same_held : has (take s.limit (distinct (all_series s.kept window ++ series s.kept entry ∷ [])))
        (series s.kept entry) ≡ false → held s (window ++ entry ∷ []) ≡ held s window
    same_held out =
        ap (λ (keys : List (List ℕ)). take s.limit (distinct keys))
        (map_push (series s.kept) window entry)
        ∙ held_same s.limit (all_series s.kept window) (series s.kept entry) out

    not_held : has (take s.limit (distinct (all_series s.kept window ++ series s.kept entry ∷ [])))
        (series s.kept entry) ≡ false → belongs s (window ++ entry ∷ []) None entry ≡ true
    not_held out =
        ap
        (λ (keys : List (List ℕ)). not (has (take s.limit (distinct keys)) (series s.kept entry)))
        (map_push (series s.kept) window entry) ∙ ap not out

    at : (b : Bool)
        → has (take s.limit (distinct (all_series s.kept window ++ series s.kept entry ∷ [])))
        (series s.kept entry) ≡ b
        → rows s (window ++ entry ∷ []) (cond b (Some (series s.kept entry)) None)
        ≡ rows s window (cond b (Some (series s.kept entry)) None) ++ entry ∷ []
    at true in_place =
        split (belongs s (window ++ entry ∷ []) (Some (series s.kept entry)))
        (belongs s window (Some (series s.kept entry))) (λ e. refl)
        (key_is_same (series s.kept entry))
    at false out =
        split (belongs s (window ++ entry ∷ []) None) (belongs s window None)
        (λ e. ap (λ (keys : List (List ℕ)). not (has keys (series s.kept e))) (same_held out))
        (not_held out)

-- fewer values than a u64 counts are in range where their sum is
pub in_range_is : (a : Aggregation) (values : List ℤ) → length values < 2 ^ 64
    → in_range a values ≡ sum_in_range a (sum_of values)
in_range_is SumAggregation values few = refl
in_range_is LastValueAggregation values few = refl
in_range_is (HistogramAggregation boundaries keeps_sum) values few =
    let counted : nat_lt (length values) (2 ^ 64) ≡ true = grind (arith, nat_tests) in
    ap (λ (b : Bool). b && (not keeps_sum || fits_i64 (sum_of values))) counted

-- a stream takes a recording where the sum with it is in range
pub sum_fits : (s : Stream) (window : List Entry) (entry : Entry) → length window + 1 < 2 ^ 64
    → fits_stream s window entry ≡ sum_in_range (stream_aggregation s)
    (sum_of (values (rows s window (place_found s window entry))) +ℤ entry.value)
sum_fits s window entry few =
    let place = place_found s window entry in
    let short : length
    (values (rows s window (place_found s window entry) ++ entry ∷ [])) < 2 ^ 64 =
    omega (
      arith,
      few,
      length-map (rows s window (place_found s window entry) ++ entry ∷ [])
          (λ (e : Entry). e.value),
      length_push (rows s window (place_found s window entry)) entry,
      length-filter (belongs s window (place_found s window entry)) window,
      count_by-le-length (belongs s window (place_found s window entry)) window,
    ) in
    ap (λ (place : Option (List ℕ)). in_range (stream_aggregation s)
    (values (rows s (window ++ entry ∷ []) place))) (place_of_is s window entry)
    ∙ ap (λ (es : List Entry). in_range (stream_aggregation s) (values es))
    (rows_push s window entry)
    ∙ in_range_is (stream_aggregation s) (values (rows s window place ++ entry ∷ [])) short
    ∙ ap (sum_in_range (stream_aggregation s))
    (sum_push (rows s window (place_found s window entry)) entry)
