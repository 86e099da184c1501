-- the cells so far have no recordings, and the facts of their instruments
use Rattle.std.proofs.Common.{◌≡◌, ℕ, Some, [], length}
use Rattle.std.specs.Prelude.{slice_get}
use Rattle.metric_core.specs.Cells.{CellValue}
use Rattle.metric_core.specs.CoreStands.{CellKeepsTo}
use Rattle.metric_history.specs.History.{told_of}
use Rattle.metric_core.proofs.run.new_cells.Given as goal

abbrev pub invariant-loop-instrument : goal.invariant-loop-instrument
invariant-loop-instrument g l = record {
  count : length l.cells.items ≡ l.instrument;
  own : (i : ℕ) (c : CellValue g.row.B.Denot) → slice_get l.cells.items i ≡ Some c → slice_get l.plan.facts.instruments i ≡ Some c.facts;
  each : (i : ℕ) (c : CellValue g.row.B.Denot) → slice_get l.cells.items i ≡ Some c → CellKeepsTo g.B.Book.stands c l.start (told_of l.plan.facts l.start [] i);
}
