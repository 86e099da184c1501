-- one batch more
use Rattle.std.proofs.Common.{ap, sym, ◌∙◌}
use Rattle.std.proofs.lemmas.Result.{err_from_is_err_and}
use Rattle.metric_export.specs.Exports.{answer_to}
use Rattle.metric_export.proofs.OthersLaws.{next_refused, none_left, none_refused, some_refused, this_refused}
use Rattle.metric_export.proofs.belonging.own_batches.Goals as goal

pub loop-batch-preserved : goal.loop-batch-preserved
loop-batch-preserved g c =
    let takes = g.E.MetricExporter.takes c.args.exporter.now in
    let none = none_refused _ _ (rw c.takes.ensures at c.in_ok-own_batch.ensures) in
    sym (next_refused takes c.args.plan.now c.args.batches.now c.loop-batch.batch-index c.batch-item.result c.loop-batch-test.true c.batch-item.is none)
    ∙ c.loop-batch.invariant

pub returns-in_err-own_batch : goal.returns-in_err-own_batch
returns-in_err-own_batch g c =
    let takes = g.E.MetricExporter.takes c.args.exporter.now in
    let some = some_refused _ _ (rw c.takes.ensures at c.in_err-own_batch.ensures) in
    let this = this_refused takes c.args.plan.now c.args.batches.now c.loop-batch.batch-index c.batch-item.result _ c.loop-batch-test.true c.batch-item.is some in
    let p = err_from_is_err_and c.from_residual.result c.from_residual.ensures.1 in
    rw (p.1, p.2) (ap answer_to (sym this ∙ c.loop-batch.invariant))

pub returns : goal.returns
returns g c =
    let takes = g.E.MetricExporter.takes c.args.exporter.now in
    ap answer_to (sym (none_left takes c.args.plan.now c.args.batches.now c.loop-batch.batch-index c.loop-batch-test.false) ∙ c.loop-batch.invariant)
