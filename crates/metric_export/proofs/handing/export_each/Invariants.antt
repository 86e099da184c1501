-- The exporter took each batch so far.
use Rattle.std.proofs.Common.{take}
use Rattle.metric_export.specs.ExporterCalls.{IsExport}
use Rattle.metric_export.specs.Handings.{TakesEach}
use Rattle.metric_export.proofs.handing.export_each.Given as goal

abbrev pub invariant-loop-taken : goal.invariant-loop-taken
invariant-loop-taken g l =
    TakesEach (IsExport g.E.MetricExporter l.plan) l.fn.exporter l.exporter (take l.taken l.batches)
