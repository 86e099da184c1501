-- What stands behind a lock, and whose a call may be.
use Rattle.std.specs.Prelude.{◌≡◌, ℕ, IsTrue, List, Some, pos, ◌≤ℤ◌, slice_get, slice_index}
use Rattle.std.specs.Prelude.{slice_index_or}
use Rattle.metric_bounds.specs.Amounts.{amount_with}
use Rattle.metric_core.specs.Cells.{CellValue}
use Rattle.metric_facts.specs.declared.facts.Facts.{Facts}
use Rattle.metric_plan.specs.Plans.{IsPlan, PlanValue}
use Rattle.metric_safety.specs.SafeFacts.{IsSafeFacts}
use Rattle.metric_slot.specs.declared.seen.Seen.{Seen}
use Rattle.metric_slot.specs.declared.told.Told.{Told}

-- # certified facts (profile) [IsCertified, AreCertified]
-- They are those of a certified plan for one instrument, and safe: what each slot keeps of its
-- cell.
pub record IsCertified (own : Facts) : Type 0 where
  pub plan : PlanValue
  pub kept : IsPlan plan
  pub certified : IsTrue plan.is_certified
  pub of : slice_get plan.facts.instruments own.instrument ≡ Some own
  pub safe : IsSafeFacts own

-- those of each instrument are certified
abbrev pub AreCertified : List Facts → Type 0
AreCertified all = (number : ℕ) (own : Facts) → slice_get all number ≡ Some own → IsCertified own

-- # own recorder (profile)
-- The cell has the facts that the call brings, as many of the recorder's recordings as it was told
-- of, and so many values can be as far above the least as was told.
pub record IsOwnRecorder {B : Type 0} (c : CellValue B) (own : Facts) (told : Told) (recorder : ℕ)
    : Type 0 where
  pub facts : c.facts ≡ own
  pub spent : slice_index c.spent recorder ≡ told.count
  pub amount : pos told.amount ≤ℤ amount_with told.count own.lo own.hi

-- # own run (profile)
-- The cell has the facts that the call brings, and the start of its run.
pub record IsOfRun {B : Type 0} (c : CellValue B) (own : Facts) (began : ℕ) : Type 0 where
  pub facts : c.facts ≡ own
  pub start : c.start ≡ began

-- # own reader (profile)
-- The cell has the facts that the call brings and the start of its run, and the reader's last batch
-- counted as many recordings as it has seen, at the time that it has seen.
pub record IsOwnReader {B : Type 0} (c : CellValue B) (own : Facts) (began : ℕ) (seen : Seen)
    (reader : ℕ) : Type 0 where
  pub facts : c.facts ≡ own
  pub start : c.start ≡ began
  pub mark : slice_index c.marks reader ≡ seen.mark
  pub time : slice_index_or c.times reader c.start ≡ seen.time
