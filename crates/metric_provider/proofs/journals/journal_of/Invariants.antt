-- those so far
use Rattle.std.proofs.Common.{◌≡◌, take}
use Rattle.std.specs.Prelude.{All}
use Rattle.metric_core.specs.Cells.{CellKept}
use Rattle.metric_provider.specs.Lanes.{kept_by}
use Rattle.metric_provider.proofs.journals.journal_of.Given as goal

abbrev pub invariant-loop-slot : goal.invariant-loop-slot
invariant-loop-slot g l = record {
  entries : l.entries.items ≡ kept_by g.B.Book.kept (take l.slot-index l.lanes);
  kept : All (CellKept g.B.Book.stands) (take l.slot-index l.lanes);
}
