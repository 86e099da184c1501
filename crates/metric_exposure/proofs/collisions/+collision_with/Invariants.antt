-- It calls itself with fewer ends.
use Rattle.std.proofs.Common.{length}
use Rattle.metric_exposure.proofs.collisions.+collision_with.Given as goal

abbrev pub decreases-collision_with : goal.decreases-collision_with
decreases-collision_with l = length l.suffixes.now
