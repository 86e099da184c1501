-- The exporter took each batch so far.
use Rattle.std.proofs.Common.{take}
use Rattle.metric_export.specs.ExporterCalls.{IsExport}
use Rattle.metric_export.specs.Handings.{TakesEach}
use Rattle.metric_periodic.specs.Exported.{Answered}
use Rattle.metric_periodic.proofs.exports.Exports.hand_on_in_order.Given as goal

abbrev pub invariant-loop-taken : goal.invariant-loop-taken
invariant-loop-taken g l =
    TakesEach (Answered (IsExport g.E.MetricExporter l.plan)) l.fn.self l.self (take l.taken l.batches)
