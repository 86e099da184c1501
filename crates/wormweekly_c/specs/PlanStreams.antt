-- The streams of a plan.
use Rattle.std.specs.Prelude.{ℕ, List, Option, option_map, slice_get}
use Rattle.metric_views.specs.declared.stream.Stream.{Stream}
use Rattle.wormweekly_c.specs.Walking.{aggregation_number, delta_number, kind_number}
use Rattle.wormweekly_c.specs.declared.plan_streams.PlanStreamOut.{PlanStreamOut}

abbrev pub plan_stream_out : Stream → PlanStreamOut
plan_stream_out stream = record {
  instrument = stream.instrument;
  reader = stream.reader;
  kind = kind_number stream.kind;
  aggregation = aggregation_number stream.aggregation;
  delta = delta_number stream.temporality;
}

-- the stream of a number
abbrev pub plan_stream_at : List Stream → ℕ → Option PlanStreamOut
plan_stream_at streams number = option_map plan_stream_out (slice_get streams number)
