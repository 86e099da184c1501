-- the least stranger of the entries so far
use Rattle.std.proofs.Common.{take}
use Rattle.metric_audit.specs.Slips.{StrangersAre}
use Rattle.metric_audit.proofs.slips.least_stranger.Given as goal

abbrev pub invariant-loop-entry : goal.invariant-loop-entry
invariant-loop-entry l = StrangersAre l.count (take l.entry-index l.entries) l.found
