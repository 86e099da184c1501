-- the budgets so far, and those of the tables that are left, are those of all
use Rattle.std.proofs.Common.{◌≡◌, map, drop, length, []}
use Rattle.toml.specs.View.{table_view}
use Rattle.metric_base.specs.Steps.{each}
use Rattle.metric_catalogue.specs.Recorders.{budget_of}
use Rattle.metric_catalogue.proofs.recorders.budgets_of.Given as goal

abbrev pub invariant-loop-table : goal.invariant-loop-table
invariant-loop-table l = record {
  few : length l.budgets ≡ l.table-index;
  exact : each (budget_of l.recorder l.count) l.budgets (map (λ t. table_view t.now) (drop l.table-index l.tables))
      ≡ each (budget_of l.recorder l.count) [] (map (λ t. table_view t.now) l.tables);
}
