-- What a reader's calls answer.
use Rattle.std.specs.Prelude.{◌≡◌, ◌⊎◌, ◌<◌, ℕ, ◌++◌, List, Result, Ok, Err, Some, true, drop}
use Rattle.std.specs.Prelude.{length, map, max, slice_get, slice_set}
use Rattle.metric_base.specs.Steps.{◌>>=◌, require, require_some}
use Rattle.metric_contents.specs.declared.refusal.Refusal.{Refusal}
use Rattle.metric_contents.specs.declared.refusal.Refusal.TheVariants.{Stranger, UnknownInstrument}
use Rattle.metric_contents.specs.declared.refusal.Refusal.TheVariants.{Memory}
use Rattle.metric_history.specs.declared.batch.Batch.{Batch}
use Rattle.metric_facts.specs.declared.facts.Facts.{Facts}
use Rattle.metric_safety.specs.WindowBounds.{IsReportWithin}
use Rattle.metric_slot.specs.declared.seen.Seen.{Seen}
use Rattle.metric_slot.specs.Sightings.{seen_of}
use Rattle.metric_slot.specs.SlotAnswers.{Continues, ReportsJournal}
use Rattle.metric_seat.specs.Seats.{CollectorValue, ProviderValue, is_collector_of, seen_at}

-- the facts of an instrument that a seat may collect of a provider, or the first refusal
abbrev pub collectable : ProviderValue → CollectorValue → ℕ → Result Facts Refusal
collectable p seat instrument =
    require (is_collector_of p seat) Stranger >>= λ _.
    require_some (slice_get p.plan.facts.instruments instrument) UnknownInstrument

-- # next batch (SDK, collect) [IsNextBatch, AnswersEach]
-- It begins where and when the reader's last one ended (delta) or at the start of the run
-- (cumulative), at the time that was asked for or, where that is later, at that of the last one, and
-- reports recordings that the instrument may have accepted, as many as it counts; so it is within
-- the bounds of what it covers.
pub record IsNextBatch (own : Facts) (start reader : ℕ) (seen : Seen) (now : ℕ) (batch : Batch)
    : Type 0 where
  pub continues : Continues own start reader seen batch
  pub time : batch.time ≡ max now seen.time
  pub journal : ReportsJournal own reader seen.mark batch
  pub within : IsReportWithin own batch.from batch.mark batch.streams

-- what refuses a collection under the lock
abbrev pub RefusesCollection : Refusal → Type 0
RefusesCollection Stranger = Unit {0}
RefusesCollection Memory = Unit {0}
RefusesCollection other = ⊥

-- What a collection of such an instrument at a time is answered: what it is refused for before the
-- lock is taken, else what the lock's call answers.
abbrev pub AnswersCollector : Result Facts Refusal → CollectorValue → ℕ → ℕ
    → Result Batch Refusal → Type 0
AnswersCollector (Err first) seat instrument now (Err refusal) = refusal ≡ first
AnswersCollector (Err first) seat instrument now (Ok batch) = ⊥
AnswersCollector (Ok own) seat instrument now (Ok batch) =
    IsNextBatch own seat.run.start seat.number (seen_at seat instrument) now batch
AnswersCollector (Ok own) seat instrument now (Err refusal) = RefusesCollection refusal

-- the seat that has seen a batch of an instrument
abbrev pub with_seen : CollectorValue → ℕ → Batch → CollectorValue
with_seen seat instrument batch =
    record seat { seen = slice_set seat.seen instrument (seen_of batch) }

-- each batch is what a collection of the instrument of its place at a time is answered
abbrev pub AnswersEach : ProviderValue → CollectorValue → ℕ → List Batch → Type 0
AnswersEach p seat now batches =
    (i : ℕ) (batch : Batch) → slice_get batches i ≡ Some batch
    → AnswersCollector (collectable p seat i) seat i now (Ok batch)

-- the seat that has seen a batch of each of the first instruments
abbrev pub with_all_seen : CollectorValue → List Batch → CollectorValue
with_all_seen seat batches = record seat {
  seen = map seen_of batches ++ drop (length batches) seat.seen;
}

-- A collection of an instrument at a time is answered this refusal. The plan has the
-- instrument, unless the seat is a stranger.
pub record IsRefusedAt (p : ProviderValue) (seat : CollectorValue) (now instrument : ℕ)
    (refusal : Refusal) : Type 0 where
  pub known : is_collector_of p seat ≡ true → instrument < length p.plan.facts.instruments
  pub answer : AnswersCollector (collectable p seat instrument) seat instrument now (Err refusal)

-- What a collection of all instruments at a time was refused for: the instrument after those that
-- have a batch refused, or memory ran out for the list.
pub record AllRefused (p : ProviderValue) (seat : CollectorValue) (now : ℕ) (done : List Batch)
    (instrument : ℕ) (refusal : Refusal) : Type 0 where
  pub before : length done ≡ instrument
  pub each : AnswersEach p seat now done
  pub why : IsRefusedAt p seat now instrument refusal ⊎ ((instrument ≡ 0) × (refusal ≡ Memory))
