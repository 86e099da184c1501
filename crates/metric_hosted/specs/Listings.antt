-- Several recordings of set keys, one after the other.
use Rattle.std.specs.Prelude.{◌≡◌, List, [], ◌∷◌, Some, Result, Ok, Err, slice_get, take}
use Rattle.metric_plan.specs.Plans.{PlanValue}
use Rattle.metric_seat.specs.Seats.{RecorderValue}
use Rattle.metric_seat.specs.declared.fault.SetsFault.{SetsFault}
use Rattle.metric_seat.specs.declared.keys.Measurement.{Measurement}
use Rattle.metric_hosted.specs.Hosts.{HostedValue}
use Rattle.metric_hosted.specs.Recordings.{AnswersHosted, RecordsHosted, admission_of_key}

-- one recording is made
pub record IsMade (plan : PlanValue) (old new : HostedValue) (before after : RecorderValue)
    (one : Measurement) : Type 0 where
  pub answer : AnswersHosted
      (admission_of_key plan old before one.set one.value) plan old before one.value (Ok tt)
  pub made : RecordsHosted
      (admission_of_key plan old before one.set one.value) plan old new before after one.value

-- # several recordings (profile) [AreMade, StopsAt, AnswersList]
-- All are made in order; or the first so many, and the next one is refused for this.
abbrev pub AreMade : PlanValue → HostedValue → HostedValue → RecorderValue → RecorderValue
    → List Measurement → Type 0
AreMade plan old new before after [] = (new ≡ old) × (after ≡ before)
AreMade plan old new before after (one ∷ others) =
    (next : HostedValue) × (told : RecorderValue) × IsMade plan old next before told one
    × AreMade plan next new told after others

-- The first so many are made, and the one after them is refused for this.
pub record StopsAt (plan : PlanValue) (old new : HostedValue) (before after : RecorderValue)
    (all : List Measurement) (stop : SetsFault) : Type 0 where
  pub one : Measurement
  pub next : slice_get all stop.place ≡ Some one
  pub made : AreMade plan old new before after (take stop.place all)
  pub refused : AnswersHosted (admission_of_key plan new after one.set one.value) plan new after
      one.value (Err stop.refusal)

-- what several recordings in one call are answered
abbrev pub AnswersList : PlanValue → HostedValue → HostedValue → RecorderValue → RecorderValue
    → List Measurement → Result (Unit {0}) SetsFault → Type 0
AnswersList plan old new before after all (Ok done) = AreMade plan old new before after all
AnswersList plan old new before after all (Err stop) = StopsAt plan old new before after all stop
