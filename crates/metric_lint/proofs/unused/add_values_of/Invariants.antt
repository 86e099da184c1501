-- the remarks on the values so far
use Rattle.std.proofs.Common.{◌≡◌, ◌++◌}
use Rattle.std.specs.List.{flat_map, range_with_len}
use Rattle.metric_lint.specs.Unused.{value_unused}
use Rattle.metric_lint.proofs.unused.add_values_of.Given as goal

abbrev pub invariant-loop-value : goal.invariant-loop-value
invariant-loop-value l = l.remarks ≡ l.fn.remarks ++ flat_map (value_unused l.rows l.of.instrument l.of.key) (range_with_len 0 l.value)
