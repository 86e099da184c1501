-- the first of those that are left is the first of all
use Rattle.std.proofs.Common.{◌≡◌, length, map}
use Rattle.metric_contents.specs.Attributes.{given_by}
use Rattle.metric_lint.specs.Explanations.{first_repeated}
use Rattle.metric_lint.proofs.explanation.repeated.Given as goal

abbrev pub invariant-loop-left : goal.invariant-loop-left
invariant-loop-left l = first_repeated (map given_by l.left) ≡ first_repeated (map given_by l.attrs)

abbrev pub decreases-loop-left : goal.decreases-loop-left
decreases-loop-left l = length l.left
