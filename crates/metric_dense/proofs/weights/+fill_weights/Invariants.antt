use Rattle.std.proofs.Common.{length}
use Rattle.metric_dense.proofs.weights.+fill_weights.Given as goal

abbrev pub decreases-fill_weights : goal.decreases-fill_weights
decreases-fill_weights l = length l.kept.now
