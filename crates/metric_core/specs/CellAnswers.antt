-- What the calls of a cell answer, and what they make of it.
use Rattle.std.specs.Prelude.{◌≡◌, ◌<◌, ◌≤◌, ◌+◌, ◌-◌, ◌+ℤ◌, ℕ, ℤ, Bool, true, false, List, [], ◌∷◌}
use Rattle.std.specs.Prelude.{◌++◌, Result, Ok, Err, slice_index, slice_set}
use Rattle.metric_history.specs.Journals.{Standing, kept_of}
use Rattle.metric_contents.specs.declared.refusal.Refusal.{Refusal}
use Rattle.metric_contents.specs.declared.refusal.Refusal.TheVariants.{Closed, Budget, NoSpare}
use Rattle.metric_contents.specs.declared.refusal.Refusal.TheVariants.{SumRange, Memory}
use Rattle.metric_history.specs.declared.batch.Batch.{Batch}
use Rattle.metric_history.specs.declared.entry.Entry.{Entry}
use Rattle.metric_history.specs.Answers.{batch}
use Rattle.metric_history.specs.Windows.{fits_all}
use Rattle.metric_core.specs.Cells.{CellValue, CellStands, told_by}

abbrev pub entry_of : ℕ → List ℕ → ℤ → Entry
entry_of recorder set value = record { recorder = recorder; set = set; value = value }

-- how many recordings a recorder may make: its budget, and what it was granted
abbrev pub budget_of : {B : Type 0} → CellValue B → ℕ → ℕ
budget_of c recorder = slice_index c.facts.budgets recorder + slice_index c.granted recorder

-- The instrument is open, the recorder has recordings left, and whether
-- each series stays in range is this.
pub record IsJudged {B : Type 0} (stands : B → Standing) (c : CellValue B) (entry : Entry)
    (fits : Bool) : Type 0 where
  pub is_open : c.is_closed ≡ false
  pub has_budget : slice_index c.spent entry.recorder < budget_of c entry.recorder
  pub fitting : (journal : List Entry) → CellStands stands c journal
      → fits_all c.facts (slice_index c.marks) journal entry ≡ fits

-- The instrument is open, and the recorder has no recordings left.
pub record IsOverBudget {B : Type 0} (c : CellValue B) (recorder : ℕ) : Type 0 where
  pub is_open : c.is_closed ≡ false
  pub no_budget : budget_of c recorder ≤ slice_index c.spent recorder

-- what a recording is answered: `Closed`, `Budget`, `SumRange`, whichever applies first, else done,
-- unless memory runs out
abbrev pub AnswersRecording : {B : Type 0} → (B → Standing) → CellValue B → Entry
    → Result (Unit {0}) Refusal → Type 0
AnswersRecording stands c entry (Ok done) = IsJudged stands c entry true
AnswersRecording stands c entry (Err Closed) = c.is_closed ≡ true
AnswersRecording stands c entry (Err Budget) = IsOverBudget c entry.recorder
AnswersRecording stands c entry (Err SumRange) = IsJudged stands c entry false
AnswersRecording stands c entry (Err Memory) = IsJudged stands c entry true
AnswersRecording stands c entry (Err other) = ⊥

-- the cell with one recording more, which this book has
abbrev pub with_entry : {B : Type 0} → CellValue B → Entry → B → CellValue B
with_entry c entry book = record c {
  book = book;
  spent = slice_set c.spent entry.recorder (slice_index c.spent entry.recorder + 1);
  count = c.count + 1;
  total = c.total +ℤ entry.value;
}

-- the new cell stands for one recording more
abbrev pub GainsEntry : {B : Type 0} → (B → Standing) → CellValue B → CellValue B → Entry → Type 0
GainsEntry stands old new entry =
    (journal : List Entry) → CellStands stands old journal
    → CellStands stands new (journal ++ entry ∷ [])

-- the batch is what the reader is told at a time of each journal for which the cell stands
abbrev pub ReportsBatch : {B : Type 0} → (B → Standing) → CellValue B → ℕ → ℕ → Batch → Type 0
ReportsBatch stands c reader now told =
    (journal : List Entry) → CellStands stands c journal
    → told ≡ batch c.facts c.start (told_by c journal) reader now

-- the cell after a batch of the reader with this time, in which the
-- book has moved the reader's mark
abbrev pub with_batch : {B : Type 0} → CellValue B → ℕ → ℕ → B → CellValue B
with_batch c reader time book = record c {
  book = book;
  marks = slice_set c.marks reader c.count;
  times = slice_set c.times reader time;
}

-- the new cell stands for the same recordings
abbrev pub KeepsJournal : {B : Type 0} → (B → Standing) → CellValue B → CellValue B → Type 0
KeepsJournal stands old new =
    (journal : List Entry) → CellStands stands old journal → CellStands stands new journal

-- what a close is answered: `Closed` where the instrument is closed, else done
abbrev pub AnswersClose : {B : Type 0} → CellValue B → Result (Unit {0}) Refusal → Type 0
AnswersClose c (Ok done) = c.is_closed ≡ false
AnswersClose c (Err refusal) = (refusal ≡ Closed) × (c.is_closed ≡ true)

-- The instrument is open, and so much is left of its spare.
pub record IsSpared {B : Type 0} (c : CellValue B) (amount : ℕ) : Type 0 where
  pub is_open : c.is_closed ≡ false
  pub is_left : amount ≤ c.spare

-- The instrument is open, and less is left of its spare.
pub record IsOverSpare {B : Type 0} (c : CellValue B) (amount : ℕ) : Type 0 where
  pub is_open : c.is_closed ≡ false
  pub is_less : c.spare < amount

-- # granted cell (profile) [AnswersGrant, with_grant]
-- The recorder was granted so much more, and so much less is left.
abbrev pub AnswersGrant : {B : Type 0} → CellValue B → ℕ → Result (Unit {0}) Refusal → Type 0
AnswersGrant c amount (Ok done) = IsSpared c amount
AnswersGrant c amount (Err Closed) = c.is_closed ≡ true
AnswersGrant c amount (Err NoSpare) = IsOverSpare c amount
AnswersGrant c amount (Err other) = ⊥

-- the cell of which a recorder was granted so many recordings of what was left of the spare
abbrev pub with_grant : {B : Type 0} → CellValue B → ℕ → ℕ → CellValue B
with_grant c recorder amount = record c {
  granted = slice_set c.granted recorder (slice_index c.granted recorder + amount);
  spare = c.spare - amount;
}

-- # entries told (profile)
-- What is kept of each journal for which a cell stands; of the accepted recordings of each history
-- for which a core does.
abbrev pub TellsEntries : {B : Type 0} → (B → Standing) → Bool → CellValue B → List Entry → Type 0
TellsEntries stands keeps c entries =
    (journal : List Entry) → CellStands stands c journal → entries ≡ kept_of keeps journal
