-- one batch more
use Rattle.metric_export.specs.ExporterCalls.{IsExport}
use Rattle.metric_export.proofs.QueueLaws.{next_taken}
use Rattle.metric_export.proofs.handing.export_each.Goals as goal

pub loop-taken-preserved : goal.loop-taken-preserved
loop-taken-preserved g c =
    next_taken (IsExport g.E.MetricExporter c.args.plan.now) c.args.exporter.now c.loop-taken.exporter c.refused.new.exporter
    c.args.batches.now c.loop-taken.taken c.index-batches-taken.result c.loop-taken-test.true c.index-batches-taken.is c.loop-taken.invariant c.in-None.ensures
