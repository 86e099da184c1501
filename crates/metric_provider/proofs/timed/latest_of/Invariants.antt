-- the greatest so far
use Rattle.std.proofs.Common.{take}
use Rattle.metric_provider.specs.Rolling.{TellsLatest}
use Rattle.metric_provider.proofs.timed.latest_of.Given as goal

abbrev pub invariant-loop-timed : goal.invariant-loop-timed
invariant-loop-timed g l = TellsLatest g.T.Timed.tells (take l.timed-index l.all) l.latest
