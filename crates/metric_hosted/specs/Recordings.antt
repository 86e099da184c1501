-- What recordings on an instrument that a host holds are answered.
use Rattle.std.specs.Prelude.{◌≡◌, ℕ, ℤ, IfSome, List, Result, Ok, Err, slice_get}
use Rattle.metric_contents.specs.Encoding.{Given}
use Rattle.metric_contents.specs.declared.refusal.Refusal.{Refusal}
use Rattle.metric_core.specs.CellAnswers.{GainsEntry, entry_of, with_entry}
use Rattle.metric_facts.specs.Products.{AreAllByProduct}
use Rattle.metric_marked.specs.Marks.{MarkedValue, StandsMarked}
use Rattle.metric_plan.specs.Plans.{PlanValue}
use Rattle.metric_seat.specs.KeyRecordings.{admitted_key}
use Rattle.metric_seat.specs.Recordings.{admitted, with_recording}
use Rattle.metric_seat.specs.Seats.{RecorderValue}
use Rattle.metric_seat.specs.OneSlot.{AnswersSlot}
use Rattle.metric_hosted.specs.Hosts.{HostedValue, number_of, run_of}

-- # admission (profile) [admission_of, admission_of_key]
-- The admitted recording of a provider, for the instrument's run and number: with attributes, or
-- with a set key.
abbrev pub admission_of : PlanValue → HostedValue → RecorderValue → List Given → ℤ
    → Result (List ℕ) Refusal
admission_of plan h seat attrs value = admitted (run_of plan h) seat (number_of h) attrs value

-- the same of a recording of a set key
abbrev pub admission_of_key : PlanValue → HostedValue → RecorderValue → List ℕ → ℤ
    → Result (List ℕ) Refusal
admission_of_key plan h seat set value = admitted_key (run_of plan h) seat (number_of h) set value

-- # answer to a hosted seat (Metrics API, synchronous instruments)
-- What refuses its admission, else what the slot answers, never `Memory` where all streams are by
-- product.
abbrev pub AnswersHosted : Result (List ℕ) Refusal → PlanValue → HostedValue → RecorderValue → ℤ
    → Result (Unit {0}) Refusal → Type 0
AnswersHosted (Err first) plan h seat value (Err refusal) = refusal ≡ first
AnswersHosted (Err first) plan h seat value (Ok done) = ⊥
AnswersHosted (Ok set) plan h seat value result =
    AnswersSlot StandsMarked AreAllByProduct plan h.cell seat (number_of h) set value result

-- the instrument with a recording of a recorder, which this book has
abbrev pub with_recorded : HostedValue → ℕ → List ℕ → ℤ → MarkedValue → HostedValue
with_recorded h recorder set value book =
    record h { cell = with_entry h.cell (entry_of recorder set value) book }

-- # recorded (profile) [IsRecorded, RecordsHosted]
-- One recording more, for which the instrument stands, and of which the seat was told.
pub record IsRecorded (plan : PlanValue) (old new : HostedValue) (before after : RecorderValue)
    (set : List ℕ) (value : ℤ) : Type 0 where
  pub is : new ≡ with_recorded old before.number set value new.cell.book
  pub stands : GainsEntry StandsMarked old.cell new.cell (entry_of before.number set value)
  pub told : IfSome (slice_get plan.facts.instruments (number_of old))
      (λ own. after ≡ with_recording before (number_of old) own value)

-- the same of a recording with this admission
abbrev pub RecordsHosted : Result (List ℕ) Refusal → PlanValue → HostedValue → HostedValue
    → RecorderValue → RecorderValue → ℤ → Type 0
RecordsHosted (Err first) plan old new before after value = ⊥
RecordsHosted (Ok set) plan old new before after value =
    IsRecorded plan old new before after set value
