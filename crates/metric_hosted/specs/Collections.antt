-- What collections of an instrument that a host holds are answered.
use Rattle.std.specs.Prelude.{◌≡◌, ℕ, Result, Ok, Err}
use Rattle.metric_contents.specs.declared.refusal.Refusal.{Refusal}
use Rattle.metric_core.specs.CellAnswers.{with_batch}
use Rattle.metric_facts.specs.declared.facts.Facts.{Facts}
use Rattle.metric_history.specs.declared.batch.Batch.{Batch}
use Rattle.metric_marked.specs.Marks.{MarkedValue}
use Rattle.metric_plan.specs.Plans.{PlanValue}
use Rattle.metric_seat.specs.Collections.{IsNextBatch, collectable}
use Rattle.metric_seat.specs.Seats.{CollectorValue, seen_at}
use Rattle.metric_slot.specs.SlotAnswers.{RefusesReader}
use Rattle.metric_hosted.specs.Hosts.{HostedValue, number_of, run_of}

-- the facts of the instrument by a plan, of which a seat may collect, or the first refusal
abbrev pub allowance_of : PlanValue → HostedValue → CollectorValue → Result Facts Refusal
allowance_of plan h seat = collectable (run_of plan h) seat (number_of h)

-- # answer to a hosted reader (SDK, collect)
-- What refuses it, else the next batch, or what the slot refuses, exactly.
abbrev pub AnswersReading : Result Facts Refusal → HostedValue → CollectorValue → ℕ
    → Result Batch Refusal → Type 0
AnswersReading (Err first) h seat now (Err refusal) = refusal ≡ first
AnswersReading (Err first) h seat now (Ok batch) = ⊥
AnswersReading (Ok own) h seat now (Ok batch) =
    IsNextBatch own seat.run.start seat.number (seen_at seat (number_of h)) now batch
AnswersReading (Ok own) h seat now (Err refusal) =
    RefusesReader h.cell own seat.run.start (seen_at seat (number_of h)) seat.number refusal

-- the instrument after a batch of a reader with this time, in which the
-- book has moved the reader's mark
abbrev pub with_collected : HostedValue → ℕ → ℕ → MarkedValue → HostedValue
with_collected h reader time book = record h { cell = with_batch h.cell reader time book }
