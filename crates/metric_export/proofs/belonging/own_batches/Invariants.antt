-- None of the batches so far is refused.
use Rattle.std.proofs.Common.{◌≡◌, drop}
use Rattle.metric_export.specs.Queues.{refuses_any}
use Rattle.metric_export.proofs.belonging.own_batches.Given as goal

abbrev pub invariant-loop-batch : goal.invariant-loop-batch
invariant-loop-batch g l =
    let takes = g.E.MetricExporter.takes l.exporter in
    refuses_any takes l.plan (drop l.batch-index l.batches) ≡ refuses_any takes l.plan l.batches
