-- What a seat hands on to what holds an instrument.
use Rattle.std.specs.Prelude.{◌≡◌, ◌⊎◌, ℕ, ℤ, Bool, true, List, [], ◌∷◌, Result, Ok, Err}
use Rattle.std.specs.Prelude.{IfSome, slice_get}
use Rattle.metric_contents.specs.declared.refusal.Refusal.{Refusal}
use Rattle.metric_facts.specs.declared.facts.Facts.{Facts}
use Rattle.metric_history.specs.declared.batch.Batch.{Batch}
use Rattle.metric_plan.specs.Plans.{PlanValue}
use Rattle.metric_slot.specs.declared.seen.Seen.{Seen}
use Rattle.metric_slot.specs.declared.told.Told.{Told}
use Rattle.metric_seat.specs.declared.fault.SetsFault.{SetsFault}
use Rattle.metric_seat.specs.declared.keys.Measurement.{Measurement}
use Rattle.metric_seat.specs.KeyRecordings.{AreFirstAdmitted, measurement_of}
use Rattle.metric_seat.specs.Recordings.{RefusesSlip, told_at}
use Rattle.metric_seat.specs.Seats.{CollectorValue, ProviderValue, RecorderValue, seen_at}

-- what recordings in a row come to: the instrument before and after them, the facts and what the
-- recorder was told, which are brought, the recorder's number, the recordings, and their answer
abbrev pub Records : Type 0 → Type 1
Records H = H → H → Facts → Told → ℕ → List Measurement → Result (Unit {0}) SetsFault → Type 0

-- what a collection comes to: the instrument before and after it, the facts, the start of the run
-- and what the reader has seen, which are brought, the reader's number, the time, and its answer
abbrev pub Collects : Type 0 → Type 1
Collects H = H → H → Facts → ℕ → Seen → ℕ → ℕ → Result Batch Refusal → Type 0

-- # handed on (profile) [HandsOn, Hands, HandsOne, HandsAdmitted, HandsReading]
-- What holds the instrument was called with these recordings, for the seat's recorder, with the
-- plan's facts and what the seat was told; of a refused slip nothing was. The same of a collection.
abbrev pub HandsOn : {H : Type 0} → Records H → PlanValue → RecorderValue → ℕ → H → H
    → List Measurement → Result (Unit {0}) SetsFault → Type 0
HandsOn {H} records plan seat instrument old new all result =
    IfSome (slice_get plan.facts.instruments instrument) (λ (own : Facts).
    records old new own (told_at seat instrument) seat.number all result)

-- Nothing was handed on, since there is no slip.
pub record HasNoSlip {H : Type 0} (keeps : Bool) (old new : H) (fault : SetsFault) : Type 0 where
  pub noted : keeps ≡ true
  pub first : fault.place ≡ 0
  pub why : RefusesSlip fault.refusal
  pub same : new ≡ old

-- the recordings of a list that a seat may make were handed on, or there was no slip of them
abbrev pub Hands : {H : Type 0} → Bool → Records H → PlanValue → RecorderValue → ℕ → H → H
    → List Measurement → Result (Unit {0}) SetsFault → Type 0
Hands {H} keeps records plan seat instrument old new all (Ok done) =
    HandsOn records plan seat instrument old new all (Ok done)
Hands {H} keeps records plan seat instrument old new all (Err fault) =
    HasNoSlip keeps old new fault
    ⊎ HandsOn records plan seat instrument old new all (Err fault)

-- the same, where of an empty list nothing is handed on
abbrev pub HandsAny : {H : Type 0} → Bool → Records H → PlanValue → RecorderValue → ℕ → H → H
    → List Measurement → Result (Unit {0}) SetsFault → Type 0
HandsAny {H} keeps records plan seat instrument old new all result =
    ((all ≡ []) × (new ≡ old) × (result ≡ Ok tt))
    ⊎ Hands keeps records plan seat instrument old new all result

-- what one recording is answered, as a list of one
abbrev pub one_answer : Result (Unit {0}) Refusal → Result (Unit {0}) SetsFault
one_answer (Ok done) = Ok done
one_answer (Err refusal) = Err (record { place = 0; refusal = refusal })

-- a recording with this admission was handed on, if it was admitted
abbrev pub HandsOne : {H : Type 0} → Bool → Records H → Result (List ℕ) Refusal → PlanValue
    → RecorderValue → ℕ → H → H → ℤ → Result (Unit {0}) Refusal → Type 0
HandsOne {H} keeps records (Err first) plan seat instrument old new value result = new ≡ old
HandsOne {H} keeps records (Ok set) plan seat instrument old new value result =
    Hands keeps records plan seat instrument old new (measurement_of set value ∷ [])
    (one_answer result)

-- Of a list those were handed on that the seat may make, up to the first that it may not.
pub record HandsAdmitted {H : Type 0} (keeps : Bool) (records : Records H) (p : ProviderValue)
    (seat : RecorderValue) (instrument : ℕ) (old new : H) (all : List Measurement) : Type 0 where
  pub some : List Measurement
  pub admitted : AreFirstAdmitted p seat instrument all some
  pub made : Result (Unit {0}) SetsFault
  pub handed : HandsAny keeps records p.plan seat instrument old new some made

-- a collection of such an instrument was handed on, if the seat may make it
abbrev pub HandsReading : {H : Type 0} → Collects H → Result Facts Refusal → CollectorValue → ℕ
    → H → H → ℕ → Result Batch Refusal → Type 0
HandsReading {H} collects (Err first) seat instrument old new now result = new ≡ old
HandsReading {H} collects (Ok own) seat instrument old new now result =
    collects old new own seat.run.start (seen_at seat instrument) seat.number now result
