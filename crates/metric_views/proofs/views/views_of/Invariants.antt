-- the views so far, and those of the tables that are left, are those of all
use Rattle.std.proofs.Common.{◌≡◌, map, drop, length, []}
use Rattle.toml.specs.View.{table_view}
use Rattle.metric_base.specs.Steps.{each}
use Rattle.metric_views.specs.Views.{view_of}
use Rattle.metric_views.proofs.views.views_of.Given as goal

abbrev pub invariant-loop-table : goal.invariant-loop-table
invariant-loop-table l = record {
  few : length l.views ≡ l.table-index;
  exact : each (λ before table. view_of (length before) table) l.views (map (λ t. table_view t.now) (drop l.table-index l.tables))
      ≡ each (λ before table. view_of (length before) table) [] (map (λ t. table_view t.now) l.tables);
}
