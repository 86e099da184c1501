-- the readers so far, and those of the tables that are left, are those of all
use Rattle.std.proofs.Common.{◌≡◌, map, drop, length, []}
use Rattle.toml.specs.View.{table_view}
use Rattle.metric_base.specs.Steps.{each}
use Rattle.metric_views.specs.Readers.{reader_of}
use Rattle.metric_views.proofs.readers.readers_of.Given as goal

abbrev pub invariant-loop-table : goal.invariant-loop-table
invariant-loop-table l = record {
  few : length l.readers ≡ l.table-index;
  exact : each reader_of l.readers (map (λ t. table_view t.now) (drop l.table-index l.tables))
      ≡ each reader_of [] (map (λ t. table_view t.now) l.tables);
}
