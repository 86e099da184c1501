-- each call leaves a key out
use Rattle.std.proofs.Common.{length}
use Rattle.metric_diff.proofs.combinations.+push_attributes.Given as goal

abbrev pub decreases-push_attributes : goal.decreases-push_attributes
decreases-push_attributes l = length l.keys.now
