use Rattle.std.proofs.Common.{length}
use Rattle.tests_runs.proofs.dense.+is_full.Given as goal

abbrev pub decreases-is_full : goal.decreases-is_full
decreases-is_full l = length l.keys.now
