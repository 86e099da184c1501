-- It calls itself with fewer keys.
use Rattle.std.proofs.Common.{length}
use Rattle.metric_exposure.proofs.renames.+key_as.Given as goal

abbrev pub decreases-key_as : goal.decreases-key_as
decreases-key_as l = length l.keys.now
