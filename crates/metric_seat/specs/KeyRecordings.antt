-- What recordings of set keys are answered.
use Rattle.std.specs.Prelude.{◌≡◌, ◌⊎◌, ◌<◌, ℕ, ℤ, Bool, true, All, List, [], ◌∷◌, Result, Ok, Err, Some}
use Rattle.std.specs.Prelude.{length, map, slice_get, take}
use Rattle.std.specs.Option.{option_map_or}
use Rattle.metric_base.specs.Steps.{◌>>=◌, require, require_some}
use Rattle.metric_combinations.specs.Combinations.{permits}
use Rattle.metric_history.specs.declared.slip.Slip.{Slip}
use Rattle.metric_contents.specs.declared.refusal.Refusal.{Refusal}
use Rattle.metric_contents.specs.declared.refusal.Refusal.TheVariants.{Stranger, UnknownInstrument}
use Rattle.metric_contents.specs.declared.refusal.Refusal.TheVariants.{UnknownValue, Combination}
use Rattle.metric_contents.specs.declared.refusal.Refusal.TheVariants.{ValueRange}
use Rattle.metric_facts.specs.declared.facts.Facts.{Facts}
use Rattle.metric_facts.specs.Facts.{in_bounds, is_allowed_set, is_full_set}
use Rattle.metric_plan.specs.Plans.{PlanValue}
use Rattle.metric_slot.specs.declared.told.Told.{Told}
use Rattle.metric_slot.specs.Tellings.{told_more}
use Rattle.metric_seat.specs.declared.fault.SetsFault.{SetsFault}
use Rattle.metric_seat.specs.declared.keys.Measurement.{Measurement}
use Rattle.metric_seat.specs.Recordings.{KnowsRecording}
use Rattle.metric_seat.specs.Recordings.{AnswersSeat, RefusesRecording, with_recording}
use Rattle.metric_seat.specs.Recordings.{with_slips}
use Rattle.metric_seat.specs.Seats.{ProviderValue, RecorderValue, is_recorder_of}

-- the set key of a recording that an instrument with these facts declares, if it is a full set of
-- its keys and one of its combinations where these are listed, or the first refusal
abbrev pub key_of : Facts → List ℕ → ℤ → Result (List ℕ) Refusal
key_of own set value =
    require (is_full_set own.keys set) UnknownValue >>= λ _.
    require (permits own.allowed set) Combination >>= λ _.
    require (in_bounds own value) ValueRange >>= λ _.
    Ok set

-- the same of an instrument of the plan
abbrev pub declared_key : PlanValue → ℕ → List ℕ → ℤ → Result (List ℕ) Refusal
declared_key plan instrument set value =
    require_some (slice_get plan.facts.instruments instrument) UnknownInstrument >>= λ own.
    key_of own set value

-- # admitted key, declared key (profile) [admitted_key, declared_key, key_of]
-- The set key, where it is a full set of the instrument, one of its combinations where these are
-- listed, and the value is in range, or the first of: stranger, unknown instrument, unknown value,
-- combination, value range.
abbrev pub admitted_key : ProviderValue → RecorderValue → ℕ → List ℕ → ℤ → Result (List ℕ) Refusal
admitted_key p seat instrument set value =
    require (is_recorder_of p seat) Stranger >>= λ _.
    declared_key p.plan instrument set value

-- ---- one after the other

-- the seat that was told of a recording of this value on an instrument, where the plan has it
abbrev pub told_of : PlanValue → RecorderValue → ℕ → ℤ → RecorderValue
told_of plan seat instrument value =
    option_map_or (λ (own : Facts). with_recording seat instrument own value)
    (slice_get plan.facts.instruments instrument) seat

-- the seat that was told of these, one after the other
abbrev pub told_of_all : PlanValue → RecorderValue → ℕ → List Measurement → RecorderValue
told_of_all plan seat instrument [] = seat
told_of_all plan seat instrument (one ∷ all) =
    told_of_all plan (told_of plan seat instrument one.value) instrument all

-- the recording of a value by its set key
abbrev pub measurement_of : List ℕ → ℤ → Measurement
measurement_of set value = record { set = set; value = value }

-- its slip
abbrev pub slip_of_one : Measurement → Slip
slip_of_one one = record { set = one.set; value = one.value }

-- the seat that was told of these, with a slip of each
abbrev pub noted_of_all : Bool → PlanValue → RecorderValue → ℕ → List Measurement → RecorderValue
noted_of_all keeps plan seat instrument all =
    with_slips keeps (told_of_all plan seat instrument all) instrument (map slip_of_one all)

-- what a recording of a set key is answered
abbrev pub AnswersKey : (Facts → Type 0) → ProviderValue → RecorderValue → ℕ → Measurement
    → Result (Unit {0}) Refusal → Type 0
AnswersKey spares_memory p seat instrument one result =
    AnswersSeat spares_memory
    (admitted_key p seat instrument one.set one.value) p.plan seat instrument result

-- # what a list of recordings is answered (profile) [AreAccepted, IsRefusedAfter, told_of_all]
-- Each is accepted of the seat that was told of those before it; or those before a place are, and
-- the one at the place is refused.
abbrev pub AreAccepted : (Facts → Type 0) → ProviderValue → RecorderValue → ℕ
    → List Measurement → Type 0
AreAccepted spares_memory p seat instrument all =
    (place : ℕ) (one : Measurement) → slice_get all place ≡ Some one
    → AnswersKey spares_memory p
    (told_of_all p.plan seat instrument (take place all)) instrument one (Ok tt)

-- Those before a place are accepted, one after the other, and then the one at the place is refused.
pub record IsRefusedAfter (spares_memory : Facts → Type 0) (p : ProviderValue)
    (seat : RecorderValue) (instrument : ℕ) (all : List Measurement) (fault : SetsFault)
    : Type 0 where
  pub before : AreAccepted spares_memory p seat instrument (take fault.place all)
  pub one : Measurement
  pub found : slice_get all fault.place ≡ Some one
  pub answer : AnswersKey spares_memory p
      (told_of_all p.plan seat instrument (take fault.place all)) instrument one (Err fault.refusal)

-- ---- what stands before the lock, and what under it

-- a seat may make this one
abbrev pub IsAdmitted : ProviderValue → RecorderValue → ℕ → Measurement → Type 0
IsAdmitted p seat instrument one = admitted_key p seat instrument one.set one.value ≡ Ok one.set

-- each of these
abbrev pub AreAdmitted : ProviderValue → RecorderValue → ℕ → List Measurement → Type 0
AreAdmitted p seat instrument all = All (IsAdmitted p seat instrument) all

-- It may make those before a place, and the one at the place is refused.
pub record IsUnadmittedAfter (p : ProviderValue) (seat : RecorderValue) (instrument : ℕ)
    (all : List Measurement) (fault : SetsFault) : Type 0 where
  pub before : AreAdmitted p seat instrument (take fault.place all)
  pub one : Measurement
  pub found : slice_get all fault.place ≡ Some one
  pub refused : admitted_key p seat instrument one.set one.value ≡ Err fault.refusal

-- the seat may make these of a list, which are all of it, or those before one that it may not make
abbrev pub AreFirstAdmitted : ProviderValue → RecorderValue → ℕ → List Measurement
    → List Measurement → Type 0
AreFirstAdmitted p seat instrument all some =
    ((some ≡ all) × AreAdmitted p seat instrument all)
    ⊎ ((fault : SetsFault) × (some ≡ take fault.place all)
    × IsUnadmittedAfter p seat instrument all fault)

-- the plan knows each of these
abbrev pub KnowsEach : PlanValue → ℕ → ℕ → List Measurement → Type 0
KnowsEach plan instrument by all =
    All (λ (one : Measurement). KnowsRecording plan instrument by one.set one.value) all

-- The instrument allows its set key, and its value is in range.
pub record IsRecordable (own : Facts) (one : Measurement) : Type 0 where
  pub allowed : is_allowed_set own one.set ≡ true
  pub ranged : in_bounds own one.value ≡ true

-- what a recorder was told after these
abbrev pub told_each : Told → ℤ → List Measurement → Told
told_each told lo [] = told
told_each told lo (one ∷ all) = told_each (told_more told lo one.value) lo all

-- The recorder was told of those before a place, and then refused.
pub record IsRefusedUnder (spares_memory : Facts → Type 0) (own : Facts) (by : ℕ)
    (first last : Told) (all : List Measurement) (fault : SetsFault) : Type 0 where
  pub within : fault.place < length all
  pub told : last ≡ told_each first own.lo (take fault.place all)
  pub why : RefusesRecording spares_memory own by last fault.refusal
