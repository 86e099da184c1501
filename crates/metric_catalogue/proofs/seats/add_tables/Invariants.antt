-- the recorders so far, and those of the tables that are left, are those of all
use Rattle.std.proofs.Common.{◌≡◌, ◌≤◌, ◌+◌, map, drop, length}
use Rattle.toml.specs.View.{table_view}
use Rattle.metric_base.specs.Steps.{in_turn}
use Rattle.metric_catalogue.specs.Seats.{with_seats}
use Rattle.metric_catalogue.proofs.seats.add_tables.Given as goal

abbrev pub invariant-loop-table : goal.invariant-loop-table
invariant-loop-table l = record {
  tables : l.seated.tables ≡ l.initial.seated.tables + l.table-index;
  few : length l.seated.recorders ≤ 64;
  exact : in_turn (with_seats l.named) l.seated (map (λ t. table_view t.now) (drop l.table-index l.tables))
      ≡ in_turn (with_seats l.named) l.initial.seated (map (λ t. table_view t.now) l.tables);
}
