-- the tables so far, and the one among those that are left
use Rattle.std.proofs.Common.{◌≡◌, ◌≤◌, ◌+◌, map, drop}
use Rattle.toml.specs.View.{view}
use Rattle.metric_messages.specs.Places.{table_of}
use Rattle.metric_messages.proofs.places.table_of.Given as goal

abbrev pub invariant-loop-table : goal.invariant-loop-table
invariant-loop-table l = record {
  few : l.passed + l.left ≤ l.number;
  exact : l.passed + table_of l.left (map view (drop l.table-index l.tables)) ≡ table_of l.number (map view l.tables);
}
