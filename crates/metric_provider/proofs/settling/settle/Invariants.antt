-- the totals so far
use Rattle.std.proofs.Common.{◌≡◌, ◌≤◌, ◌<◌, ◌++◌, ℕ, true, List, Some, drop, length, vec_capacity, vec_len}
use Rattle.std.specs.Prelude.{slice_get}
use Rattle.metric_core.specs.Cells.{CellValue}
use Rattle.metric_facts.specs.declared.facts.Facts.{Facts}
use Rattle.metric_provider.specs.Lanes.{kept_by}
use Rattle.metric_provider.specs.Totals.{IsSettled, IsToldJournal, told_totals}
use Rattle.metric_provider.proofs.settling.settle.Given as goal

abbrev pub invariant-loop-instrument : goal.invariant-loop-instrument
invariant-loop-instrument g l = record {
  count : vec_len l.totals ≡ l.instrument;
  room : length l.unlocked ≤ vec_capacity l.totals;
  totals : l.totals.items ++ told_totals l.recorders l.instrument (drop l.instrument l.plan.facts.instruments) ≡ told_totals l.recorders 0 l.plan.facts.instruments;
  told : (i : ℕ) (own : Facts) (c : List (CellValue g.row.B.Denot)) → i < l.instrument → slice_get l.plan.facts.instruments i ≡ Some own → slice_get l.unlocked i ≡ Some c
      → IsSettled l.whole g.B.Book.kept own c l.recorders i;
  journals : (i : ℕ) (own : Facts) (c : List (CellValue g.row.B.Denot)) → i < l.instrument → slice_get l.plan.facts.instruments i ≡ Some own → slice_get l.unlocked i ≡ Some c
      → l.whole ≡ true → IsToldJournal g.B.Book.KEEPS_ENTRIES own l.recorders i (kept_by g.B.Book.kept c);
}
