-- The slots with which a provider starts.
use Rattle.std.specs.Prelude.{◌≡◌, ℕ, List, [], Some, slice_get}
use Rattle.metric_history.specs.Journals.{Standing}
use Rattle.metric_core.specs.Cells.{CellStands, CellValue, new_cell}
use Rattle.metric_facts.specs.declared.facts.Facts.{Facts}

-- The slot is of the instrument of this number, without recordings since this start.
pub record IsNewSlot {B : Type 0} (standing : B → Standing) (instruments : List Facts)
    (start number : ℕ) (slot : CellValue B) : Type 0 where
  pub facts : slice_get instruments number ≡ Some slot.facts
  pub new : slot ≡ new_cell slot.facts start slot.book
  pub stands : CellStands standing slot []

-- each slot is that of the instrument of its place
abbrev pub AreNewSlots : {B : Type 0} → (B → Standing) → List Facts → ℕ
    → List (CellValue B) → Type 0
AreNewSlots {B} standing instruments start slots =
    (number : ℕ) (slot : CellValue B) → slice_get slots number ≡ Some slot
    → IsNewSlot standing instruments start number slot
