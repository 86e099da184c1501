-- one place more
use Rattle.metric_kit_commands.proofs.AccountLaws.{batches_more}
use Rattle.metric_kit_commands.proofs.batches.batches_at.Goals as goal

pub loop-place-preserved : goal.loop-place-preserved
loop-place-preserved c =
    batches_more c.args.replies.now c.args.places.now c.loop-place.place-index 0 c.loop-place.batches.items c.add_batch_at.new.batches.items c.loop-place-test.true c.loop-place.invariant
    c.in_ok-add_batch_at.ensures
