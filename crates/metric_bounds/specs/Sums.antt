-- Which streams keep a sum.
use Rattle.std.specs.Prelude.{ℕ, Bool, true, false, ◌&&◌, ◌==◌, List}
use Rattle.std.specs.List.{list_any}
use Rattle.metric_contents.specs.Kinds.{is_monotonic}
use Rattle.metric_contents.specs.declared.contents.Kind.{Kind}
use Rattle.metric_views.specs.declared.stream.Stream.{Stream}
use Rattle.metric_views.specs.declared.stream.StreamAggregation.{StreamAggregation}
use Rattle.metric_views.specs.declared.stream.StreamAggregation.TheVariants.{Sum, LastValue}
use Rattle.metric_views.specs.declared.stream.StreamAggregation.TheVariants.{Histogram}

-- a sum does, and a histogram of values that are never negative
abbrev pub keeps_sum_by : StreamAggregation → Kind → Bool
keeps_sum_by Sum kind = true
keeps_sum_by LastValue kind = false
keeps_sum_by (Histogram boundaries) kind = is_monotonic kind

-- # kept sum (SDK, explicit bucket histogram aggregation)
-- A sum stream, or a histogram of a counter or a histogram.
abbrev pub keeps_sum : Stream → Bool
keeps_sum stream = keeps_sum_by stream.aggregation stream.kind

-- the stream is of the instrument of this number, and keeps a sum
abbrev pub sums_instrument : ℕ → Stream → Bool
sums_instrument instrument stream = stream.instrument == instrument && keeps_sum stream

-- some stream of the instrument keeps a sum
abbrev pub is_summed : List Stream → ℕ → Bool
is_summed streams instrument = list_any (sums_instrument instrument) streams
