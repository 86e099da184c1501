-- the meters so far, and those of the tables that are left, are those of all
use Rattle.std.proofs.Common.{◌≡◌, ◌≤◌, ◌+◌, map, drop, length}
use Rattle.toml.specs.View.{table_view}
use Rattle.metric_base.specs.Steps.{in_turn}
use Rattle.metric_catalogue.specs.Meters.{with_meter}
use Rattle.metric_catalogue.proofs.meters.add_meters.Given as goal

abbrev pub invariant-loop-table : goal.invariant-loop-table
invariant-loop-table l = record {
  meters : length l.metered.meters ≡ length l.initial.metered.meters + l.table-index;
  instruments : length l.metered.instruments ≤ 512;
  exact : in_turn (with_meter l.format l.shared (map (λ t. table_view t.now) l.recorders)) l.metered (map (λ t. table_view t.now) (drop l.table-index l.tables))
      ≡ in_turn (with_meter l.format l.shared (map (λ t. table_view t.now) l.recorders)) l.initial.metered (map (λ t. table_view t.now) l.tables);
}
