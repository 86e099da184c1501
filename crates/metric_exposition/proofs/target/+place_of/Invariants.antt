-- It calls itself with fewer labels.
use Rattle.std.proofs.Common.{length}
use Rattle.metric_exposition.proofs.target.+place_of.Given as goal

abbrev pub decreases-place_of : goal.decreases-place_of
decreases-place_of l = length l.labels.now
