-- the first of those that are left is the first of all
use Rattle.std.proofs.Common.{◌≡◌, ◌+◌, map, drop}
use Rattle.std.specs.List.{position_from}
use Rattle.toml.specs.View.{table_view}
use Rattle.metric_catalogue.specs.Groups.{lacks_keys}
use Rattle.metric_catalogue.proofs.groups.first_without_keys.Given as goal

abbrev pub invariant-loop-table : goal.invariant-loop-table
invariant-loop-table l = record {
  count : l.number ≡ l.first + l.table-index;
  exact : position_from lacks_keys l.number (map (λ t. table_view t.now) (drop l.table-index l.tables))
      ≡ position_from lacks_keys l.first (map (λ t. table_view t.now) l.tables);
}
