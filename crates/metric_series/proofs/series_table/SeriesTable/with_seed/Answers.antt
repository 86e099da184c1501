-- no series yet, of the stream's aggregation
use Rattle.std.proofs.Common.{refl, sym, ap}
use Rattle.metric_contents.specs.Kinds.{is_monotonic}
use Rattle.metric_history.specs.Aggregations.{aggregation_of}
use Rattle.metric_series.proofs.series_table.SeriesTable.with_seed.Goals as goal

pub returns-in-Sum-clause-stands : goal.returns-in-Sum-clause-stands
returns-in-Sum-clause-stands c =
    c.new-table.ensures c.args.stream.now c.in_ok-kept.ensures refl (sym (ap (λ a. aggregation_of a (is_monotonic c.args.stream.now.kind)) c.in-Sum.is))

pub returns-in-LastValue-clause-stands : goal.returns-in-LastValue-clause-stands
returns-in-LastValue-clause-stands c =
    c.new-table-in-LastValue.ensures c.args.stream.now c.in_ok-kept.ensures refl (sym (ap (λ a. aggregation_of a (is_monotonic c.args.stream.now.kind)) c.in-LastValue.is))
