-- the tables so far, and those of the values that are left, are those of all
use Rattle.std.proofs.Common.{◌≡◌, map, drop, length, []}
use Rattle.toml.specs.View.{table_view, view}
use Rattle.metric_base.specs.Steps.{each}
use Rattle.metric_table.specs.Fields.{table_of}
use Rattle.metric_table.proofs.lists.tables_of.Given as goal

abbrev pub invariant-loop-value : goal.invariant-loop-value
invariant-loop-value g l = record {
  few : length l.tables ≡ l.value-index;
  exact : each (λ _ d. table_of l.faults d) (map (λ t. table_view t.now) l.tables) (map view (drop l.value-index l.values))
      ≡ each (λ _ d. table_of l.faults d) [] (map view l.values);
}
