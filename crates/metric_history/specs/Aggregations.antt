-- How the values of a stream's series are aggregated.
use Rattle.std.specs.Prelude.{Bool}
use Rattle.metric_aggregate.specs.Aggregation.{Aggregation, SumAggregation, LastValueAggregation}
use Rattle.metric_aggregate.specs.Aggregation.{HistogramAggregation}
use Rattle.metric_contents.specs.Kinds.{is_monotonic}
use Rattle.metric_views.specs.declared.stream.Stream.{Stream}
use Rattle.metric_views.specs.declared.stream.StreamAggregation.{StreamAggregation}
use Rattle.metric_views.specs.declared.stream.StreamAggregation.TheVariants.{Sum, LastValue}
use Rattle.metric_views.specs.declared.stream.StreamAggregation.TheVariants.{Histogram}

-- how values are aggregated, where it is said whether a histogram keeps their sum
abbrev pub aggregation_of : StreamAggregation → Bool → Aggregation
aggregation_of Sum keeps_sum = SumAggregation
aggregation_of LastValue keeps_sum = LastValueAggregation
aggregation_of (Histogram boundaries) keeps_sum = HistogramAggregation boundaries keeps_sum

-- that of a stream: a histogram keeps the sum where the values of its kind are never negative
abbrev pub stream_aggregation : Stream → Aggregation
stream_aggregation s = aggregation_of s.aggregation (is_monotonic s.kind)
