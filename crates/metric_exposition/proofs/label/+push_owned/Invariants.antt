-- It calls itself with fewer attributes.
use Rattle.std.proofs.Common.{length}
use Rattle.metric_exposition.proofs.label.+push_owned.Given as goal

abbrev pub decreases-push_owned : goal.decreases-push_owned
decreases-push_owned l = length l.attributes.now
