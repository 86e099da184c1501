use Rattle.std.proofs.Common.{◌≡◌, length}
use Rattle.metric_names.specs.Names.{fold_order}
use Rattle.metric_names.proofs.name.folded_order.Given as goal

abbrev pub decreases-loop-left : goal.decreases-loop-left
decreases-loop-left l = length l.left

-- what is left is in the order of the whole texts
abbrev pub invariant-loop-left : goal.invariant-loop-left
invariant-loop-left l = fold_order l.left l.right ≡ fold_order l.fn.left l.fn.right
