-- each call leaves a key out
use Rattle.std.proofs.Common.{length}
use Rattle.metric_dense.proofs.weights.+step.Given as goal

abbrev pub decreases-step : goal.decreases-step
decreases-step l = length l.keys.now
