-- It calls itself with fewer labels.
use Rattle.std.proofs.Common.{length}
use Rattle.metric_exposition.proofs.target.+target_fault.Given as goal

abbrev pub decreases-target_fault : goal.decreases-target_fault
decreases-target_fault l = length l.labels.now
