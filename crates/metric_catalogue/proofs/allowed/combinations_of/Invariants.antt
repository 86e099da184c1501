-- the rows so far, and those that are left, are all
use Rattle.std.proofs.Common.{◌≡◌, map, drop, length, []}
use Rattle.toml.specs.View.{view}
use Rattle.metric_base.specs.Steps.{each}
use Rattle.metric_catalogue.specs.Allowed.{row_of}
use Rattle.metric_catalogue.proofs.allowed.combinations_of.Given as goal

abbrev pub invariant-loop-row : goal.invariant-loop-row
invariant-loop-row l = record {
  few : length l.read ≡ l.row-index;
  exact : each (row_of l.at l.keys) l.read (map view (drop l.row-index l.rows)) ≡ each (row_of l.at l.keys) [] (map view l.rows);
}
