-- the amounts of the budgets so far are added
use Rattle.std.proofs.Common.{◌≡◌, ◌<◌, ◌+◌, ℕ, length, get_or, take}
use Rattle.std.specs.Prelude.{find}
use Rattle.metric_contents.specs.Budgets.{amount_in}
use Rattle.metric_contents.specs.Budgets.{is_budget}
use Rattle.metric_bounds.proofs.amounts.add_budgets.Given as goal

abbrev pub invariant-loop-budget : goal.invariant-loop-budget
invariant-loop-budget l = record {
  long : length l.totals ≡ length l.fn.totals;
  added : (i : ℕ) → i < length l.fn.totals → get_or l.totals i 0 ≡ get_or l.fn.totals i 0 + amount_in (find (is_budget i) (take l.budget-index l.budgets));
}
