use Rattle.metric_periodic.proofs.Calling.{all_taken, next_exported}
use Rattle.metric_periodic.proofs.exports.Exports.hand_on.Goals as goal

pub loop-batch-preserved : goal.loop-batch-preserved
loop-batch-preserved g c =
    next_exported _ _ _ _ c.args.batches.now c.loop-batch.batch-index c.batch-item.result c.loop-batch-test.true c.batch-item.is
    c.loop-batch.invariant c.hand_on_one-counted.ensures.0

pub returns : goal.returns
returns g c = all_taken _ _ _ c.args.batches.now c.loop-batch.batch-index c.loop-batch-test.false c.loop-batch.invariant
