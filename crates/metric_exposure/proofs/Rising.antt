-- Running sums rise up to the whole sum.
use Rattle.std.proofs.Common.{◌≡◌, ℕ, zero, suc, ◌+◌, ℤ, List, [], ◌∷◌, ◌++◌, length, map, sum, Option, Some, None, Bool, true, false, cond, subst, arith}
use Rattle.std.specs.Prelude.{slice_get}
use Rattle.std.specs.List.{list_any}
use Rattle.std.proofs.lemmas.List.Sums.{sum_by-cons}
use Rattle.metric_aggregate.specs.Aggregation.{Aggregation, SumAggregation, LastValueAggregation, HistogramAggregation}
use Rattle.metric_aggregate.specs.Bounds.{sum-bucket_counts}
use Rattle.metric_aggregate.specs.Value.{bucket_counts, value_of}
use Rattle.metric_views.specs.declared.stream.Stream.{Stream}
use Rattle.metric_history.specs.declared.batch.Point.{Point}
use Rattle.metric_history.specs.declared.entry.Entry.{Entry}
use Rattle.metric_history.specs.Aggregations.{stream_aggregation}
use Rattle.metric_history.specs.Points.{ascending, overflow, point, values}
use Rattle.metric_history.specs.Series.{belongs, held, rows}
use Rattle.metric_exposure.specs.Laws.{BucketsRise, ReportedBucketsRise, RisesTo, running}

rises : (from : ℕ) (counts : List ℕ) → RisesTo (from + sum counts) from (running from counts)
rises from [] = omega arith
rises from (n ∷ counts) =
    let whole : from + n + sum counts ≡ from + sum (n ∷ counts) = omega (arith, sum_by-cons (λ (x : ℕ). x) n counts) in
    (omega arith, subst (λ (count : ℕ). RisesTo count (from + n) (running (from + n) counts)) whole (rises (from + n) counts))

value_rises : (aggregation : Aggregation) (values : List ℤ) → BucketsRise (value_of aggregation values)
value_rises SumAggregation values = tt
value_rises LastValueAggregation values = tt
value_rises (HistogramAggregation boundaries keeps) values =
    let counts = bucket_counts boundaries values in
    let whole : 0 + sum counts ≡ length values = omega (arith, sum-bucket_counts boundaries values) in
    subst (λ (count : ℕ). RisesTo count 0 (running 0 counts)) whole (rises 0 counts)

-- each point is of some place
point_rises : (stream : Stream) (window : List Entry) (place : Option (List ℕ)) → BucketsRise (point stream window place).value
point_rises stream window place = value_rises (stream_aggregation stream) (values (rows stream window place))

overflow_rises : (stream : Stream) (window : List Entry) (k : ℕ) (p : Point) → slice_get (overflow stream window) k ≡ Some p → BucketsRise p.value
overflow_rises stream window k p at = by (list_any (belongs stream window None) window) at
  where
    one : (k : ℕ) → slice_get (point stream window None ∷ []) k ≡ Some p → BucketsRise p.value
    one zero at = let same : point stream window None ≡ p = cc in subst (λ (q : Point). BucketsRise q.value) same (point_rises stream window None)
    one (suc k) at = absurd cc

    by : (b : Bool) → slice_get (cond b (point stream window None ∷ []) []) k ≡ Some p → BucketsRise p.value
    by true at = one k at
    by false at = absurd cc

each_rises : (stream : Stream) (window : List Entry) (keys : List (List ℕ)) (k : ℕ) (p : Point)
    → slice_get (map (λ key. point stream window (Some key)) keys ++ overflow stream window) k ≡ Some p → BucketsRise p.value
each_rises stream window [] k p at = overflow_rises stream window k p at
each_rises stream window (key ∷ keys) zero p at = let same : point stream window (Some key) ≡ p = cc in subst (λ (q : Point). BucketsRise q.value) same (point_rises stream window (Some key))
each_rises stream window (key ∷ keys) (suc k) p at = each_rises stream window keys k p at

pub reported_buckets_rise : ReportedBucketsRise
reported_buckets_rise stream window place p at = each_rises stream window (ascending (held stream window)) place p at
