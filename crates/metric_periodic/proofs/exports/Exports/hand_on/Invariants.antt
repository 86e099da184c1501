use Rattle.std.proofs.Common.{take}
use Rattle.metric_export.specs.ExporterCalls.{IsExport}
use Rattle.metric_periodic.specs.Exported.{ExportsEach}
use Rattle.metric_periodic.proofs.exports.Exports.hand_on.Given as goal

-- The exporter was called once for each batch so far.
abbrev pub invariant-loop-batch : goal.invariant-loop-batch
invariant-loop-batch g l =
    ExportsEach (IsExport g.E.MetricExporter l.plan) l.fn.self l.self (take l.batch-index l.batches)
