-- At most as many keys as there are entries.
use Rattle.std.proofs.Common.{◌≤◌}
use Rattle.metric_combinations.proofs.layout.keys_of.Given as goal

abbrev pub invariant-loop-key : goal.invariant-loop-key
invariant-loop-key l = l.keys ≤ 8
