-- What is left to a recorder, and of a spare.
use Rattle.std.specs.Prelude.{◌≡◌, ◌≤◌, ◌+◌, ◌-◌, ℕ, Bool, true, false, Option, Some, None}
use Rattle.std.specs.Prelude.{Result, Ok, Err, length, slice_index}
use Rattle.metric_contents.specs.declared.refusal.Refusal.{Refusal}
use Rattle.metric_contents.specs.declared.refusal.Refusal.TheVariants.{Stranger, UnknownInstrument}
use Rattle.metric_contents.specs.declared.refusal.Refusal.TheVariants.{UnknownRecorder}
use Rattle.metric_core.specs.Cells.{CellValue}
use Rattle.metric_core.specs.CellAnswers.{budget_of}
use Rattle.metric_facts.specs.declared.facts.Facts.{Facts}
use Rattle.metric_slot.specs.declared.told.Told.{Told}

-- # room under a lock (profile) [IsOfTold, TellsRoom]
-- What a recorder may record by its budget and its grants, less what it has recorded: `Stranger`
-- exactly where the cell's facts or its number of the recorder's recordings are others than those
-- that are brought.
pub record IsOfTold {B : Type 0} (c : CellValue B) (own : Facts) (recorder : ℕ) (told : Told)
    : Type 0 where
  pub facts : c.facts ≡ own
  pub spent : slice_index c.spent recorder ≡ told.count

-- The seat is the recorder's, and so many recordings are left.
pub record IsRoom {B : Type 0} (c : CellValue B) (own : Facts) (recorder : ℕ) (told : Told)
    (room : ℕ) : Type 0 where
  pub of : IsOfTold c own recorder told
  pub is : room ≡ budget_of c recorder - told.count

abbrev pub TellsRoom : {B : Type 0} → CellValue B → Facts → ℕ → Told → Result ℕ Refusal → Type 0
TellsRoom c own recorder told (Ok room) = IsRoom c own recorder told room
TellsRoom c own recorder told (Err Stranger) = IsOfTold c own recorder told → ⊥
TellsRoom c own recorder told (Err other) = ⊥

-- # spare under a lock (profile)
-- What may still be granted; `Stranger` exactly where the cell's facts are others.
pub record IsSpare {B : Type 0} (c : CellValue B) (own : Facts) (left : ℕ) : Type 0 where
  pub of : c.facts ≡ own
  pub is : left ≡ c.spare

abbrev pub TellsSpare : {B : Type 0} → CellValue B → Facts → Result ℕ Refusal → Type 0
TellsSpare c own (Ok left) = IsSpare c own left
TellsSpare c own (Err Stranger) = c.facts ≡ own → ⊥
TellsSpare c own (Err other) = ⊥

-- ---- what a provider and a seat answer

-- A recorder that was told of so many may make so many more: with these they are no fewer than its
-- budget, and no more than its budget and the whole spare.
pub record IsRoomWithin (own : Facts) (recorder : ℕ) (told : Told) (room : ℕ) : Type 0 where
  pub least : slice_index own.budgets recorder ≤ told.count + room
  pub most : told.count + room ≤ slice_index own.budgets recorder + own.spare

-- # room of a recorder (profile) [AnswersRoom, AnswersSpare]
-- A stranger is none of the provider's; else the unknown instrument, exactly, or the unknown
-- recorder; else how many recordings are left, by the budget and what was granted of the spare, or
-- a stranger to what is found. Of a spare what is left.
abbrev pub AnswersRoom : Bool → Option Facts → ℕ → Told → Result ℕ Refusal → Type 0
AnswersRoom is_own None recorder told (Ok room) = ⊥
AnswersRoom is_own None recorder told (Err UnknownInstrument) = is_own ≡ true
AnswersRoom is_own None recorder told (Err Stranger) = is_own ≡ false
AnswersRoom is_own None recorder told (Err other) = ⊥
AnswersRoom is_own (Some own) recorder told (Ok room) =
    (is_own ≡ true) × IsRoomWithin own recorder told room
AnswersRoom is_own (Some own) recorder told (Err UnknownRecorder) =
    (is_own ≡ true) × (length own.budgets ≤ recorder)
AnswersRoom is_own (Some own) recorder told (Err refusal) = refusal ≡ Stranger

-- the same of a spare
abbrev pub AnswersSpare : Option Facts → Result ℕ Refusal → Type 0
AnswersSpare None (Ok left) = ⊥
AnswersSpare None (Err refusal) = refusal ≡ UnknownInstrument
AnswersSpare (Some own) (Ok left) = left ≤ own.spare
AnswersSpare (Some own) (Err refusal) = refusal ≡ Stranger

-- # question handed on (profile) [AsksRoom, AsksSpare]
-- What an instrument that the plan has is asked is what holds it asked.
abbrev pub AsksRoom : {H : Type 0} → (H → Facts → ℕ → Told → Result ℕ Refusal → Type 0)
    → Option Facts → ℕ → Told → H → Result ℕ Refusal → Type 0
AsksRoom {H} tells None recorder told held result = Unit {0}
AsksRoom {H} tells (Some own) recorder told held (Err UnknownRecorder) = Unit {0}
AsksRoom {H} tells (Some own) recorder told held result = tells held own recorder told result

abbrev pub AsksSpare : {H : Type 0} → (H → Facts → Result ℕ Refusal → Type 0)
    → Option Facts → H → Result ℕ Refusal → Type 0
AsksSpare {H} tells None held result = Unit {0}
AsksSpare {H} tells (Some own) held result = tells held own result
