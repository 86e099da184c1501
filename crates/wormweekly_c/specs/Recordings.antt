-- What recordings through handles are answered.
use Rattle.std.specs.Prelude.{◌≡◌, ℕ, ℤ, List, Result}
use Rattle.metric_contents.specs.Encoding.{Given}
use Rattle.metric_contents.specs.declared.refusal.Refusal.{Refusal}
use Rattle.metric_hosted.specs.declared.planned.HostedRecorder.{HostedRecorder}
use Rattle.metric_hosted.specs.Hosts.{HostedValue}
use Rattle.metric_hosted.specs.Recordings.{AnswersHosted, RecordsHosted, admission_of}
use Rattle.metric_hosted.specs.Recordings.{admission_of_key}

-- the admission of a recording with attributes
abbrev pub admission : HostedValue → HostedRecorder → List Given → ℤ → Result (List ℕ) Refusal
admission h own attrs value = admission_of own.plan h own.seat attrs value

-- the same of a set key
abbrev pub admission_key : HostedValue → HostedRecorder → List ℕ → ℤ → Result (List ℕ) Refusal
admission_key h own set value = admission_of_key own.plan h own.seat set value

-- # recorded through handles (Metrics API, synchronous instruments) [Answers, Records]
-- What a recording is answered, and the instrument and the seat after it.
abbrev pub Answers : Result (List ℕ) Refusal → HostedValue → HostedRecorder → ℤ
    → Result (Unit {0}) Refusal → Type 0
Answers allowed h own value result = AnswersHosted allowed own.plan h own.seat value result

-- the instrument and the seat after it
pub record Records (allowed : Result (List ℕ) Refusal) (value : ℤ) (old new : HostedValue)
    (before after : HostedRecorder) : Type 0 where
  pub plan : after.plan ≡ before.plan
  pub recorded : RecordsHosted allowed before.plan old new before.seat after.seat value

-- the same two of attributes, and of a set key
abbrev pub AnswersGiven : List Given → ℤ → HostedValue → HostedRecorder
    → Result (Unit {0}) Refusal → Type 0
AnswersGiven attrs value h own result = Answers (admission h own attrs value) h own value result

abbrev pub RecordsGiven : List Given → ℤ → HostedValue → HostedValue → HostedRecorder
    → HostedRecorder → Type 0
RecordsGiven attrs value old new before after =
    Records (admission old before attrs value) value old new before after

abbrev pub AnswersKey : List ℕ → ℤ → HostedValue → HostedRecorder
    → Result (Unit {0}) Refusal → Type 0
AnswersKey set value h own result = Answers (admission_key h own set value) h own value result

abbrev pub RecordsKey : List ℕ → ℤ → HostedValue → HostedValue → HostedRecorder
    → HostedRecorder → Type 0
RecordsKey set value old new before after =
    Records (admission_key old before set value) value old new before after
