-- What collections that a hosted reader keeps are answered.
use Rattle.std.specs.Prelude.{◌≡◌, ◌⊎◌, ℕ, if◌then◌else◌, Bool, List, [], ◌∷◌, ◌++◌, Result, Ok, Err}
use Rattle.metric_contents.specs.declared.refusal.Refusal.{Refusal}
use Rattle.metric_contents.specs.declared.refusal.Refusal.TheVariants.{Memory}
use Rattle.metric_core.specs.CellAnswers.{KeepsJournal, ReportsBatch}
use Rattle.metric_facts.specs.declared.facts.Facts.{Facts}
use Rattle.metric_history.specs.declared.batch.Batch.{Batch}
use Rattle.metric_marked.specs.Marks.{StandsMarked}
use Rattle.metric_seat.specs.Collections.{with_seen}
use Rattle.metric_hosted.specs.declared.planned.HostedReader.{HostedReader}
use Rattle.metric_hosted.specs.Collections.{AnswersReading, allowance_of, with_collected}
use Rattle.metric_hosted.specs.Hosts.{HostedValue, number_of}

-- the facts of the instrument of which a reader may collect, or the first refusal
abbrev pub allowance : HostedValue → HostedReader → Result Facts Refusal
allowance h own = allowance_of own.plan h own.seat

-- # collected by a hosted reader (SDK, collect) [RefusesReading, Collects]
-- What a collection is refused for; the instrument and the reader after it, which keeps the batch.
abbrev pub RefusesReading : HostedValue → HostedReader → ℕ → Result (Unit {0}) Refusal → Type 0
RefusesReading h own now (Ok done) = Unit {0}
RefusesReading h own now (Err refusal) =
    (refusal ≡ Memory) ⊎ AnswersReading (allowance h own) h own.seat now (Err refusal)

-- The instrument and the reader after a collection at a time: the batch that comes last of those that
-- the reader keeps is the one that goes on where its last one ended, of the recordings for which the
-- instrument stands. It stands alone, or behind those that were kept.
pub record Collects (keeps : Bool) (now : ℕ) (old new : HostedValue) (before after : HostedReader)
    : Type 0 where
  pub batch : Batch
  pub kept : after.kept ≡ (if keeps then before.kept else []) ++ batch ∷ []
  pub plan : after.plan ≡ before.plan
  pub answer : AnswersReading (allowance old before) old before.seat now (Ok batch)
  pub reports : ReportsBatch StandsMarked old.cell before.seat.number now batch
  pub stands : KeepsJournal StandsMarked old.cell new.cell
  pub is : new ≡ with_collected old before.seat.number batch.time new.cell.book
  pub seen : after.seat ≡ with_seen before.seat (number_of old) batch
