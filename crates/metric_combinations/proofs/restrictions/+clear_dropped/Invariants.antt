-- the flags that are left
use Rattle.std.proofs.Common.{length}
use Rattle.metric_combinations.proofs.restrictions.+clear_dropped.Given as goal

abbrev pub decreases-clear_dropped : goal.decreases-clear_dropped
decreases-clear_dropped l = length l.kept.now
