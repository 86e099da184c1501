use Rattle.std.proofs.Common.{length}
use Rattle.metric_dense.proofs.weights.+unrank_into.Given as goal

abbrev pub decreases-unrank_into : goal.decreases-unrank_into
decreases-unrank_into l = length l.kept.now
