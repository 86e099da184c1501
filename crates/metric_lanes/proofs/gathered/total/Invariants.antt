-- the spare and the budgets so far
use Rattle.std.proofs.Common.{◌≡◌, ◌+◌, take}
use Rattle.std.specs.Prelude.{sum}
use Rattle.metric_lanes.proofs.gathered.total.Given as goal

abbrev pub invariant-loop-budget : goal.invariant-loop-budget
invariant-loop-budget l = l.total ≡ sum (take l.budget-index l.facts.budgets) + l.facts.spare
