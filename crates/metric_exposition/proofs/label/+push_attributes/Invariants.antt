-- It calls itself with fewer keys.
use Rattle.std.proofs.Common.{length}
use Rattle.metric_exposition.proofs.label.+push_attributes.Given as goal

abbrev pub decreases-push_attributes : goal.decreases-push_attributes
decreases-push_attributes l = length l.keys.now
