-- the instruments so far, and those of the tables that are left, are those of all
use Rattle.std.proofs.Common.{◌≡◌, ◌+◌, map, drop, length}
use Rattle.toml.specs.View.{table_view}
use Rattle.metric_base.specs.Steps.{each}
use Rattle.metric_catalogue.specs.Instruments.{instrument_of}
use Rattle.metric_catalogue.proofs.instruments.add_instruments.Given as goal

abbrev pub invariant-loop-table : goal.invariant-loop-table
invariant-loop-table l = record {
  few : length l.instruments ≡ length l.initial.instruments + l.table-index;
  exact : each (instrument_of l.format l.shared (map (λ t. table_view t.now) l.recorders) l.meter l.name (table_view l.group) l.common) l.instruments (map (λ t. table_view t.now) (drop l.table-index l.tables))
      ≡ each (instrument_of l.format l.shared (map (λ t. table_view t.now) l.recorders) l.meter l.name (table_view l.group) l.common) l.initial.instruments (map (λ t. table_view t.now) l.tables);
}
