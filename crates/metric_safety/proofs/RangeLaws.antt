-- The numbers that a stream reports of recordings within the budgets are 64-bit numbers.
use Rattle.std.proofs.Common.{◌≡◌, ℕ, ◌^◌, ◌<◌, ◌≤◌, ℤ, pos, Bool, true, false, List, length, All, Some, refl, sym, subst, arith}
use Rattle.std.specs.Prelude.{IfSome, IsTrue, FitsSigned}
use Rattle.std.specs.Int.{w64}
use Rattle.std.specs.List.{AllByRecursion}
use Rattle.std.proofs.lemmas.Int.{ints}
use Rattle.std.proofs.lemmas.List.{length-map}
use Rattle.std.proofs.lemmas.List.Elements.{All-map, All-weaker}
use Rattle.std.proofs.lemmas.List.Sums.{get_or-le-sum_by}
use Rattle.metric_aggregate.specs.Aggregation.{LastValueAggregation, HistogramAggregation}
use Rattle.metric_aggregate.specs.Bounds.{IsBetween, sum-bucket_counts}
use Rattle.metric_aggregate.specs.Value.{sum_of, bucket_counts, kept_sum, least_or, greatest_or, value_of}
use Rattle.metric_bounds.specs.Amounts.{low_with, high_with}
use Rattle.metric_bounds.specs.Sums.{keeps_sum_by}
use Rattle.metric_contents.specs.Kinds.{is_monotonic}
use Rattle.metric_contents.specs.declared.contents.Kind.{Kind}
use Rattle.metric_views.specs.declared.stream.Stream.{Stream}
use Rattle.metric_views.specs.declared.stream.StreamAggregation.{StreamAggregation}
use Rattle.metric_views.specs.declared.stream.StreamAggregation.TheVariants as aggregations
use Rattle.metric_history.specs.declared.batch.Point.{Point}
use Rattle.metric_history.specs.declared.entry.Entry.{Entry}
use Rattle.metric_facts.specs.declared.facts.Facts.{Facts}
use Rattle.metric_history.specs.Aggregations.{aggregation_of, stream_aggregation}
use Rattle.metric_history.specs.Points.{points, values}
use Rattle.metric_history.specs.Series.{belongs, rows}
use Rattle.metric_safety.specs.SafeFacts.{IsSafeStream, are_admitted, total}
use Rattle.metric_safety.specs.WindowBounds.{IsHistogramWithin, IsValueInRange}
use Rattle.metric_safety.proofs.NumberLaws.{sum_fits, sum_within, value_within}
use Rattle.metric_safety.proofs.WindowLaws.{admitted_filter, admitted_values, few_rows, has_row, points_are, reported_series, series_point}

-- a value of a range of 64-bit numbers is one
value_fits : (lo hi value : ℤ) → IsBetween lo hi value → FitsSigned w64 lo → FitsSigned w64 hi → FitsSigned w64 value
value_fits lo hi value within low high = grind (arith, ints, within.at_least, within.at_most, low, high)

-- each number that is reported of at least one such value is a 64-bit number
value_in_range : (facts : Facts) (s : Stream) (values : List ℤ) → IsSafeStream facts s → total facts < 2 ^ 64 → FitsSigned w64 facts.lo → FitsSigned w64 facts.hi
    → AllByRecursion (IsBetween facts.lo facts.hi) values → 1 ≤ length values → length values ≤ total facts → IsValueInRange (value_of (stream_aggregation s) values)
value_in_range facts s values safe counts lo_fits hi_fits all some few = at s.aggregation s.kind (λ k. fits (safe.low k) (safe.high k))
  where
    fits : FitsSigned w64 (low_with (total facts) facts.lo) → FitsSigned w64 (high_with (total facts) facts.hi) → FitsSigned w64 (sum_of values)
    fits low high = sum_fits facts (total facts) (sum_of values) (sum_within facts (total facts) values all few) low high

    kept : (keeps : Bool) → (IsTrue keeps → FitsSigned w64 (sum_of values)) → IfSome (kept_sum keeps values) (FitsSigned w64)
    kept true sums = sums refl
    kept false sums = tt

    histogram : (boundaries : List ℤ) (keeps : Bool) → (IsTrue keeps → FitsSigned w64 (sum_of values)) → IsHistogramWithin facts (length values) (length values) (bucket_counts boundaries values) (kept_sum keeps values) (least_or (pos 0) values) (greatest_or (pos 0) values)
        → IsValueInRange (value_of (HistogramAggregation boundaries keeps) values)
    histogram boundaries keeps sums within = record {
      count_fits = omega (arith, few, counts);
      buckets_fit = λ k d inside. omega (arith, few, counts, get_or-le-sum_by (λ (n : ℕ). n) (bucket_counts boundaries values) k d inside, sum-bucket_counts boundaries values);
      sum_fits = kept keeps sums;
      least_fits = value_fits facts.lo facts.hi (least_or (pos 0) values) within.least_between lo_fits hi_fits;
      greatest_fits = value_fits facts.lo facts.hi (greatest_or (pos 0) values) within.greatest_between lo_fits hi_fits;
    }

    at : (aggregation : StreamAggregation) (kind : Kind) → (IsTrue (keeps_sum_by aggregation kind) → FitsSigned w64 (sum_of values))
        → IsValueInRange (value_of (aggregation_of aggregation (is_monotonic kind)) values)
    at aggregations.Sum kind sums = sums refl
    at aggregations.LastValue kind sums = value_fits facts.lo facts.hi _ (value_within facts LastValueAggregation (length values) values all some (omega arith)) lo_fits hi_fits
    at (aggregations.Histogram boundaries) kind sums =
        histogram boundaries (is_monotonic kind) sums (value_within facts (HistogramAggregation boundaries (is_monotonic kind)) (length values) values all some (omega arith))

-- each number of the points of a window is a 64-bit number
pub window_in_range : (facts : Facts) (s : Stream) (entries : List Entry) → IsSafeStream facts s → total facts < 2 ^ 64 → FitsSigned w64 facts.lo → FitsSigned w64 facts.hi
    → are_admitted facts entries ≡ true → length entries ≤ total facts → All (λ (p : Point). IsValueInRange p.value) (points s entries)
window_in_range facts s entries safe counts lo_fits hi_fits all few =
    subst (All (λ (p : Point). IsValueInRange p.value)) (sym (points_are facts s entries safe all few))
    (All-map (λ (p : Point). IsValueInRange p.value) (series_point s entries) (reported_series s entries)
    (All-weaker (λ (key : List ℕ). 1 ≤ length (rows s entries (Some key))) (λ (key : List ℕ). IsValueInRange (series_point s entries key).value) within (reported_series s entries) (has_row s entries)))
  where
    within : (key : List ℕ) → 1 ≤ length (rows s entries (Some key)) → IsValueInRange (series_point s entries key).value
    within key some =
        let long = length-map (rows s entries (Some key)) (λ (e : Entry). e.value) in
        value_in_range facts s (values (rows s entries (Some key))) safe counts lo_fits hi_fits
        (admitted_values facts (rows s entries (Some key)) (admitted_filter facts (belongs s entries (Some key)) entries all))
        (omega (arith, some, long)) (omega (arith, long, few, few_rows (belongs s entries (Some key)) entries))
