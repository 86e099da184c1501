-- What a slot makes of the calls of a seat.
use Rattle.std.specs.Prelude.{◌≡◌, ◌≢◌, ℕ, ℤ, IfSome, List, Result, Ok, Err, slice_get}
use Rattle.metric_history.specs.Journals.{Standing}
use Rattle.metric_contents.specs.declared.refusal.Refusal.{Refusal}
use Rattle.metric_contents.specs.declared.refusal.Refusal.TheVariants.{Memory}
use Rattle.metric_core.specs.CellAnswers.{KeepsJournal, ReportsBatch, entry_of, with_batch}
use Rattle.metric_core.specs.Cells.{CellValue}
use Rattle.metric_facts.specs.declared.facts.Facts.{Facts}
use Rattle.metric_history.specs.declared.batch.Batch.{Batch}
use Rattle.metric_plan.specs.Plans.{PlanValue}
use Rattle.metric_slot.specs.declared.seen.Seen.{Seen}
use Rattle.metric_slot.specs.SlotAnswers.{AnswersRecorder, RefusesReader}
use Rattle.metric_seat.specs.Recordings.{told_at}
use Rattle.metric_seat.specs.Seats.{RecorderValue}

-- What a slot answers a recording of a set key by a seat on an instrument of which the plan has
-- these facts: `Memory` only where recordings on it take some.
pub record AnswersKnown {B : Type 0} (standing : B → Standing) (spares_memory : Facts → Type 0)
    (c : CellValue B) (seat : RecorderValue) (instrument : ℕ) (set : List ℕ) (value : ℤ)
    (result : Result (Unit {0}) Refusal) (own : Facts) : Type 0 where
  pub answer : AnswersRecorder standing c own (told_at seat instrument)
      (entry_of seat.number set value) result
  pub memory : spares_memory own → result ≢ Err Memory

-- # answer of a slot to a seat (Metrics API, synchronous instruments) [AnswersSlot, AnswersKnown]
-- What the slot answers to the facts that the plan has of the instrument, exactly; `Memory` only
-- where recordings on it take some.
abbrev pub AnswersSlot : {B : Type 0} → (B → Standing) → (Facts → Type 0) → PlanValue → CellValue B
    → RecorderValue → ℕ → List ℕ → ℤ → Result (Unit {0}) Refusal → Type 0
AnswersSlot {B} standing spares_memory plan c seat instrument set value result =
    IfSome (slice_get plan.facts.instruments instrument)
    (AnswersKnown standing spares_memory c seat instrument set value result)

-- The slot reports the batch to the reader, and keeps its recordings.
pub record IsReported {B : Type 0} (standing : B → Standing) (old new : CellValue B)
    (reader now : ℕ) (batch : Batch) : Type 0 where
  pub reports : ReportsBatch standing old reader now batch
  pub is : new ≡ with_batch old reader batch.time new.book
  pub stands : KeepsJournal standing old new

-- # collection of a slot (SDK, collect) [CollectsSlot, IsReported]
-- The batch of the reader's window; refused, exactly what the slot refuses, and nothing changed.
abbrev pub CollectsSlot : {B : Type 0} → (B → Standing) → CellValue B → CellValue B → Facts → ℕ
    → Seen → ℕ → ℕ → Result Batch Refusal → Type 0
CollectsSlot {B} standing old new own start seen reader now (Ok batch) =
    IsReported standing old new reader now batch
CollectsSlot {B} standing old new own start seen reader now (Err refusal) =
    RefusesReader old own start seen reader refusal × (new ≡ old)
