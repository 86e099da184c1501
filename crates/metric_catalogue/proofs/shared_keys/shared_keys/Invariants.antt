-- the keys so far, and those of the tables that are left, are those of all
use Rattle.std.proofs.Common.{◌≡◌, map, drop, length, []}
use Rattle.toml.specs.View.{table_view}
use Rattle.metric_base.specs.Steps.{each}
use Rattle.metric_catalogue.specs.SharedKeys.{shared_key}
use Rattle.metric_catalogue.proofs.shared_keys.shared_keys.Given as goal

abbrev pub invariant-loop-table : goal.invariant-loop-table
invariant-loop-table l = record {
  few : length l.keys ≡ l.table-index;
  exact : each shared_key l.keys (map (λ t. table_view t.now) (drop l.table-index l.tables))
      ≡ each shared_key [] (map (λ t. table_view t.now) l.tables);
}
