-- there is no reply at the place
use Rattle.metric_kit_commands.proofs.AccountLaws.{no_batch}
use Rattle.metric_kit_commands.proofs.batches.add_batch_at.Goals as goal

pub returns-in-None : goal.returns-in-None
returns-in-None c = no_batch c.args.replies.now c.args.place c.args.batches.now.items c.in-None.ensures.lookup.3
