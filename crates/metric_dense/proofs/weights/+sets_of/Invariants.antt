use Rattle.std.proofs.Common.{length}
use Rattle.metric_dense.proofs.weights.+sets_of.Given as goal

abbrev pub decreases-sets_of : goal.decreases-sets_of
decreases-sets_of l = length l.kept.now
