-- the budgets so far, and those of the instruments that are left, are all
use Rattle.std.proofs.Common.{◌≡◌, ◌≤◌, ◌++◌, drop, length}
use Rattle.std.specs.List.{enumerate_from, flat_map}
use Rattle.toml.specs.View.{table_view}
use Rattle.metric_catalogue.specs.Seats.{budget_at}
use Rattle.metric_catalogue.proofs.named.budgets_meant.Given as goal

abbrev pub invariant-loop-one : goal.invariant-loop-one
invariant-loop-one l = record {
  count : l.number ≡ l.one-index;
  few : length l.budgets ≤ l.one-index;
  exact : l.budgets ++ flat_map (budget_at (table_view l.budget)) (enumerate_from l.number (drop l.one-index l.named))
      ≡ flat_map (budget_at (table_view l.budget)) (enumerate_from 0 l.named);
}
