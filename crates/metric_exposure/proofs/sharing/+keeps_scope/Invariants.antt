-- It calls itself with fewer keys.
use Rattle.std.proofs.Common.{length}
use Rattle.metric_exposure.proofs.sharing.+keeps_scope.Given as goal

abbrev pub decreases-keeps_scope : goal.decreases-keeps_scope
decreases-keeps_scope l = length l.keys.now
