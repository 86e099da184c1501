-- At most as many keys as a row has entries.
use Rattle.std.proofs.Common.{◌≤◌}
use Rattle.metric_combinations.proofs.layout.depth_of.Given as goal

abbrev pub invariant-loop-row : goal.invariant-loop-row
invariant-loop-row l = l.depth ≤ 8
