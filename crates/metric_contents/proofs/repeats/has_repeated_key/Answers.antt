-- a key that does not stand again leaves the rest to tell
use Rattle.std.proofs.Common.{arith}
use Rattle.std.proofs.lemmas.Grind.{common_steps}
use Rattle.metric_contents.proofs.repeats.has_repeated_key.Goals as goal

pub loop-left-preserved : goal.loop-left-preserved
loop-left-preserved g c = grind (arith, common_steps)
