-- what the last write took, after those that took nothing
use Rattle.metric_io.proofs.Appending.{Keeps-appends}
use Rattle.metric_io.proofs.standard.write_again.Goals as goal

pub returns-in-Ok-clause-bytes : goal.returns-in-Ok-clause-bytes
returns-in-Ok-clause-bytes g c = Keeps-appends _ _ _ _ c.loop-try.invariant c.in-Ok.ensures.bytes
