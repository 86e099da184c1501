-- It calls itself with fewer ends.
use Rattle.std.proofs.Common.{length}
use Rattle.metric_exposure.proofs.collisions.+add_names.Given as goal

abbrev pub decreases-add_names : goal.decreases-add_names
decreases-add_names l = length l.suffixes.now
