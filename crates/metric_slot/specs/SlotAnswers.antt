-- What the calls of a slot answer.
use Rattle.std.specs.Prelude.{◌≡◌, ◌≤◌, ℕ, List, Result, Err, if◌then◌else◌, length}
use Rattle.metric_history.specs.Journals.{Standing}
use Rattle.metric_contents.specs.declared.refusal.Refusal.{Refusal}
use Rattle.metric_contents.specs.declared.refusal.Refusal.TheVariants.{Stranger, SumRange, Memory}
use Rattle.metric_core.specs.Cells.{CellValue}
use Rattle.metric_core.specs.CellAnswers.{AnswersGrant, AnswersRecording}
use Rattle.metric_history.specs.declared.batch.Batch.{Batch}
use Rattle.metric_history.specs.declared.entry.Entry.{Entry}
use Rattle.metric_facts.specs.declared.facts.Facts.{Facts}
use Rattle.metric_facts.specs.Facts.{is_delta}
use Rattle.metric_history.specs.Points.{reported}
use Rattle.metric_history.specs.Windows.{window}
use Rattle.metric_safety.specs.SafeFacts.{IsJournal, IsSafeFacts}
use Rattle.metric_safety.specs.WindowBounds.{IsReportWithin}
use Rattle.metric_slot.specs.declared.seen.Seen.{Seen}
use Rattle.metric_slot.specs.declared.told.Told.{Told}
use Rattle.metric_slot.specs.Slots.{IsOfRun, IsOwnReader, IsOwnRecorder}

-- # answer to a seat (profile) [AnswersRecorder, RefusesReader]
-- `Stranger` exactly where the numbers are not its own, else the cell's answer, which is never
-- `SumRange`.
abbrev pub AnswersRecorder : {B : Type 0} → (B → Standing) → CellValue B → Facts → Told → Entry
    → Result (Unit {0}) Refusal → Type 0
AnswersRecorder stands c facts told entry (Err Stranger) =
    IsOwnRecorder c facts told entry.recorder → ⊥
AnswersRecorder stands c facts told entry (Err SumRange) = ⊥
AnswersRecorder stands c facts told entry result =
    IsOwnRecorder c facts told entry.recorder × AnswersRecording stands c entry result

-- # answer to a grant under a lock (profile)
-- `Stranger` exactly where the facts are not the cell's, else the cell's answer.
abbrev pub AnswersGranter : {B : Type 0} → CellValue B → Facts → ℕ
    → Result (Unit {0}) Refusal → Type 0
AnswersGranter c facts amount (Err Stranger) = c.facts ≡ facts → ⊥
AnswersGranter c facts amount result = (c.facts ≡ facts) × AnswersGrant c amount result

-- # goes on (SDK, collect)
-- A batch begins where and when the reader's last one ended (delta) or at the start of the run
-- (cumulative), and counts no fewer recordings than were seen.
pub record Continues (facts : Facts) (began of : ℕ) (seen : Seen) (told : Batch) : Type 0 where
  pub plan : told.plan ≡ facts.plan
  pub reader : told.reader ≡ of
  pub instrument : told.instrument ≡ facts.instrument
  pub from : told.from ≡ (if is_delta facts of then seen.mark else 0)
  pub mark : seen.mark ≤ told.mark
  pub start : told.start ≡ (if is_delta facts of then seen.time else began)

-- A batch reports recordings that the instrument may have accepted, as many as it counts: its
-- streams are those of the reader, and each has the points of their window, which is those after
-- the ones seen (delta), or all (cumulative).
pub record ReportsJournal (facts : Facts) (of seen : ℕ) (told : Batch) : Type 0 where
  pub journal : List Entry
  pub admitted : IsJournal facts journal
  pub counted : length journal ≡ told.mark
  pub streams : told.streams ≡ reported facts of (window (is_delta facts of) seen journal)

-- Each such batch of safe facts that goes on where the last one ended is within their bounds: no
-- overflow point, and each number by their range and the number of recordings that the batch
-- covers, which are at most the budgets together.
abbrev pub WithinReports : Type 0
WithinReports =
    (own : Facts) (start reader : ℕ) (seen : Seen) (told : Batch) → IsSafeFacts own
    → Continues own start reader seen told → ReportsJournal own reader seen.mark told
    → IsReportWithin own told.from told.mark told.streams

-- what a collection is refused: `Stranger` exactly where the reader's numbers
-- are not the cell's, else `Memory`
abbrev pub RefusesReader : {B : Type 0} → CellValue B → Facts → ℕ → Seen → ℕ → Refusal → Type 0
RefusesReader c facts start seen reader Stranger = IsOwnReader c facts start seen reader → ⊥
RefusesReader c facts start seen reader Memory = IsOwnReader c facts start seen reader
RefusesReader c facts start seen reader other = ⊥

-- what a report is refused: `Stranger` exactly where the facts or the start
-- are not the cell's, else `Memory`
abbrev pub RefusesReport : {B : Type 0} → CellValue B → Facts → ℕ → Refusal → Type 0
RefusesReport c facts start Stranger = IsOfRun c facts start → ⊥
RefusesReport c facts start Memory = IsOfRun c facts start
RefusesReport c facts start other = ⊥
