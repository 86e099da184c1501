-- Metrics: messages `Metric`, with a `Gauge`, a `Sum` or a `Histogram`.
use Rattle.std.specs.Prelude.{ℕ, ℤ, Bool, false, List, [], ◌∷◌, ◌++◌}
use Rattle.std.specs.List.{concat, flat_map}
use Rattle.metric_contents.specs.Kinds.{is_monotonic}
use Rattle.metric_contents.specs.declared.contents.Key.{Key}
use Rattle.metric_contents.specs.declared.contents.Kind.{Kind}
use Rattle.metric_views.specs.declared.choices.Temporality.{Temporality}
use Rattle.metric_views.specs.declared.choices.Temporality.TheVariants.{Delta, Cumulative}
use Rattle.metric_views.specs.declared.stream.Stream.{Stream}
use Rattle.metric_views.specs.declared.stream.StreamAggregation.{StreamAggregation}
use Rattle.metric_views.specs.declared.stream.StreamAggregation.TheVariants.{Sum, LastValue, Histogram}
use Rattle.metric_history.specs.declared.batch.Batch.{Batch}
use Rattle.metric_history.specs.declared.batch.Point.{Point}
use Rattle.metric_wire.specs.Wire.{block, block_head}
use Rattle.metric_otlp.specs.Fields.{number_field}
use Rattle.metric_otlp.specs.Points.{point_field}
use Rattle.metric_otlp.specs.Reports.{ReportedStream}
use Rattle.metric_otlp.specs.Series.{flag_number, text_field}

-- the boundaries of a histogram, none of another stream
abbrev pub bounds_of : StreamAggregation → List ℤ
bounds_of Sum = []
bounds_of LastValue = []
bounds_of (Histogram boundaries) = boundaries

-- what a temporality is numbered
abbrev pub temporality_number : Temporality → ℕ
temporality_number Delta = 1
temporality_number Cumulative = 2

-- what the points of sums and histograms cover; 0 for last values, which cover no time
abbrev pub covers : Temporality → StreamAggregation → ℕ
covers temporality Sum = temporality_number temporality
covers temporality (Histogram boundaries) = temporality_number temporality
covers temporality LastValue = 0

-- a sum that only rises
abbrev pub rises : Kind → StreamAggregation → Bool
rises kind Sum = is_monotonic kind
rises kind (Histogram boundaries) = false
rises kind LastValue = false

-- the field of a metric that has its points: of last values, of sums and of histograms
abbrev pub data_number : StreamAggregation → ℕ
data_number LastValue = 5
data_number Sum = 7
data_number (Histogram boundaries) = 9

-- the points of a stream
abbrev pub points_fields : List Key → Batch → Stream → List Point → List ℕ
points_fields keys batch stream points =
    flat_map (point_field keys stream.kept (bounds_of stream.aggregation) batch) points

-- the points, and what they cover and whether they only rise
abbrev pub data_message : List Key → Batch → Stream → List Point → List ℕ
data_message keys batch stream points =
    points_fields keys batch stream points
    ++ (number_field 2 (covers stream.temporality stream.aggregation)
    ++ number_field 3 (flag_number (rises stream.kind stream.aggregation)))

-- what a stream declares, and how the block of its points begins, which has so many bytes
abbrev pub metric_head : Stream → ℕ → List ℕ
metric_head stream count = concat (
    text_field 1 stream.name
    ∷ text_field 2 stream.description
    ∷ text_field 3 stream.unit
    ∷ block_head (data_number stream.aggregation) count ∷ [])

-- a stream's metric
unfoldable pub metric_message : List Key → Batch → Stream → List Point → List ℕ
metric_message keys batch stream points = concat (
    text_field 1 stream.name
    ∷ text_field 2 stream.description
    ∷ text_field 3 stream.unit
    ∷ block (data_number stream.aggregation) (data_message keys batch stream points) ∷ [])

-- # metric, scope (OTLP, metrics)
-- A message `Metric` for each stream of a report; a `ScopeMetrics` of them.
abbrev pub metric_field : ReportedStream → List ℕ
metric_field reported =
    block 2 (metric_message reported.keys reported.batch reported.stream reported.points)
