-- What calls by a handle do, in one fact: what the seat's calls at its number do.
use Rattle.std.specs.Prelude.{◌≡◌, ◌≢◌, ℕ, ◌-◌, ℤ, Bool, List, [], Result, Ok, Err, IfErr, OnErr, OnOk}
use Rattle.std.specs.Prelude.{drop, length, take}
use Rattle.metric_contents.specs.Encoding.{Given}
use Rattle.metric_contents.specs.declared.refusal.Refusal.{Refusal}
use Rattle.metric_contents.specs.declared.refusal.Refusal.TheVariants.{Stranger}
use Rattle.metric_facts.specs.declared.facts.Facts.{Facts}
use Rattle.metric_plan.specs.Plans.{print_of}
use Rattle.metric_seat.specs.declared.fault.SetsFault.{SetsFault}
use Rattle.metric_seat.specs.declared.keys.Measurement.{Measurement}
use Rattle.metric_seat.specs.KeyRecordings.{AreAccepted, IsRefusedAfter, admitted_key, noted_of_all}
use Rattle.metric_seat.specs.Recordings.{AnswersSeat, IsToldOf, SeatSpares, admitted}
use Rattle.metric_seat.specs.Seats.{ProviderValue, RecorderValue}
use Rattle.metric_handles.specs.Bounds.{BoundListValue, BoundValue, HandleValue}

-- # makes a recording, recordings (API, Add, Record) [MakesRecording, MakesRecordings]
-- What the seat's call is answered and told, as one fact.
pub record MakesRecording (keeps : Bool) (spares_memory : Facts → Type 0) (p : ProviderValue)
    (old new : RecorderValue) (instrument : ℕ) (value : ℤ) (admission : Result (List ℕ) Refusal)
    (result : Result (Unit {0}) Refusal) : Type 0 where
  pub answer : AnswersSeat (SeatSpares keeps spares_memory) admission p.plan old instrument result
  pub told : OnOk result (IsToldOf keeps admission p.plan old new instrument value)
  pub err : OnErr result (new ≡ old)

-- Recordings of set keys are made in order up to the first that is refused, and the seat is
-- told of exactly those before it.
pub record MakesRecordings (keeps : Bool) (spares_memory : Facts → Type 0) (p : ProviderValue)
    (old new : RecorderValue) (instrument : ℕ) (all : List Measurement)
    (result : Result (Unit {0}) SetsFault) : Type 0 where
  pub accepted : OnOk result (AreAccepted (SeatSpares keeps spares_memory) p old instrument all)
  pub told : OnOk result (new ≡ noted_of_all keeps p.plan old instrument all)
  pub refused : IfErr result (IsRefusedAfter (SeatSpares keeps spares_memory) p old instrument all)
  pub told_before : IfErr result
      (λ fault. new ≡ noted_of_all keeps p.plan old instrument (take fault.place all))

-- what is left of a list of recordings: nothing, or those from the refused one on
abbrev pub left_of : List Measurement → Result (Unit {0}) SetsFault → List Measurement
left_of all (Ok done) = []
left_of all (Err fault) = drop fault.place all

-- how many of a list are not tried, since they stand behind one that is refused
abbrev pub untried_of : List Measurement → Result (Unit {0}) SetsFault → ℕ
untried_of all (Ok done) = 0
untried_of all (Err fault) = length all - fault.place - 1

-- what recordings are answered together: nothing is refused, or the one after the last that is made
abbrev pub answer_of : Result (Unit {0}) SetsFault → Result (Unit {0}) Refusal
answer_of (Ok done) = Ok done
answer_of (Err fault) = Err fault.refusal

-- what is of another plan is a stranger
abbrev pub IsStrange : Result (Unit {0}) Refusal → Type 0
IsStrange result = result ≡ Err Stranger

-- the same of a list, whose first recording is refused
abbrev pub IsStrangeList : Result (Unit {0}) SetsFault → Type 0
IsStrangeList result = result ≡ Err (record { place = 0; refusal = Stranger })

-- ---- what a seat says of its calls

-- # seat, what it notes (profile) [answer_of]
-- The recorder's seat that is told of recordings, and what an answer changes beside it: nothing, or
-- the count of its refusal; of a list the answer is its first refusal, with how many stand behind
-- it.
abbrev pub Notes : Type 0 → Type 1
Notes S = S → S → ℕ → ℕ → Result (Unit {0}) Refusal → Type 0

-- what a call of a seat comes to: the provider, the seat before and after it, the instrument's
-- number, the attributes, the value, and the answer
abbrev pub Records : Type 0 → Type 1
Records S = ProviderValue → S → S → ℕ → List Given → ℤ → Result (Unit {0}) Refusal → Type 0

-- the same by a set key
abbrev pub RecordsSet : Type 0 → Type 1
RecordsSet S = ProviderValue → S → S → ℕ → List ℕ → ℤ → Result (Unit {0}) Refusal → Type 0

-- the same of recordings by set keys
abbrev pub RecordsSets : Type 0 → Type 1
RecordsSets S = ProviderValue → S → S → ℕ → List Measurement → Result (Unit {0}) SetsFault → Type 0

-- # call by a handle (API, Add, Record) [MakesByHandle, MakesByBound, MakesByList]
-- With a provider of the handle's plan the seat is called once, at the handle's number, with the
-- attributes and the value, and its answer is the answer; with any other provider it is not called,
-- and the answer is that of a stranger. The same by bound attributes, with their set key, and by a
-- list, with all its recordings.
pub record MakesByHandle {S : Type 0} (keeps : Bool) (spares_memory : Facts → Type 0)
    (seat : S → RecorderValue) (notes : Notes S) (records : Records S) (p : ProviderValue)
    (handle : HandleValue) (given : List Given) (value : ℤ) (old new : S)
    (result : Result (Unit {0}) Refusal) : Type 0 where
  pub strange : handle.plan ≢ print_of p.plan → IsStrange result × (new ≡ old)
  pub made : handle.plan ≡ print_of p.plan
      → MakesRecording keeps spares_memory p (seat old) (seat new) handle.number value
      (admitted p (seat old) handle.number given value) result
  pub noted : handle.plan ≡ print_of p.plan → notes old new handle.number 0 result
  pub handed : handle.plan ≡ print_of p.plan → records p old new handle.number given value result

-- The same by bound attributes.
pub record MakesByBound {S : Type 0} (keeps : Bool) (spares_memory : Facts → Type 0)
    (seat : S → RecorderValue) (notes : Notes S) (records : RecordsSet S) (p : ProviderValue)
    (bound : BoundValue) (value : ℤ) (old new : S) (result : Result (Unit {0}) Refusal)
    : Type 0 where
  pub strange : bound.plan ≢ print_of p.plan → IsStrange result × (new ≡ old)
  pub made : bound.plan ≡ print_of p.plan
      → MakesRecording keeps spares_memory p (seat old) (seat new) bound.instrument value
      (admitted_key p (seat old) bound.instrument bound.set value) result
  pub noted : bound.plan ≡ print_of p.plan → notes old new bound.instrument 0 result
  pub handed : bound.plan ≡ print_of p.plan
      → records p old new bound.instrument bound.set value result

-- The same by a list.
pub record MakesByList {S : Type 0} (keeps : Bool) (spares_memory : Facts → Type 0)
    (seat : S → RecorderValue) (notes : Notes S) (records : RecordsSets S) (p : ProviderValue)
    (list : BoundListValue) (old new : S) (result : Result (Unit {0}) SetsFault) : Type 0 where
  pub strange : list.plan ≢ print_of p.plan → IsStrangeList result × (new ≡ old)
  pub made : list.plan ≡ print_of p.plan
      → MakesRecordings keeps spares_memory p (seat old) (seat new) list.instrument list.all result
  pub noted : list.plan ≡ print_of p.plan
      → notes old new list.instrument (untried_of list.all result) (answer_of result)
  pub handed : list.plan ≡ print_of p.plan → records p old new list.instrument list.all result
