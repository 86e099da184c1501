-- What a recorder's calls answer.
use Rattle.std.specs.Prelude.{◌≡◌, ◌<◌, ◌≤◌, IfSome, ℕ, ℤ, Bool, true, false, List, [], ◌∷◌, ◌++◌}
use Rattle.std.specs.Prelude.{Result, Ok, Err, Some, length, slice_get, slice_index, slice_index_or}
use Rattle.std.specs.Prelude.{slice_set, if◌then◌else◌}
use Rattle.metric_history.specs.declared.slip.Slip.{Slip}
use Rattle.metric_base.specs.Steps.{◌>>=◌, require, require_some}
use Rattle.metric_contents.specs.Encoding.{Given, encode_of}
use Rattle.metric_contents.specs.declared.refusal.Refusal.{Refusal}
use Rattle.metric_contents.specs.declared.refusal.Refusal.TheVariants.{Stranger, UnknownInstrument}
use Rattle.metric_contents.specs.declared.refusal.Refusal.TheVariants.{ValueRange, Closed, Budget}
use Rattle.metric_contents.specs.declared.refusal.Refusal.TheVariants.{Memory}
use Rattle.metric_facts.specs.declared.facts.Facts.{Facts}
use Rattle.metric_facts.specs.Facts.{in_bounds, is_allowed_set}
use Rattle.metric_plan.specs.Plans.{PlanValue}
use Rattle.metric_slot.specs.declared.told.Told.{Told}
use Rattle.metric_slot.specs.Tellings.{told_more}
use Rattle.metric_seat.specs.Seats.{ProviderValue, RecorderValue, is_recorder_of, nothing_told}
use Rattle.metric_seat.specs.Seats.{slips_at}

-- the set key of a recording that the plan declares, or the first refusal
abbrev pub declared_set : PlanValue → ℕ → List Given → ℤ → Result (List ℕ) Refusal
declared_set plan instrument attrs value =
    require_some (slice_get plan.facts.instruments instrument) UnknownInstrument >>= λ own.
    encode_of plan.facts.contents.instruments instrument attrs >>= λ set.
    require (in_bounds own value) ValueRange >>= λ _.
    Ok set

-- # admitted recording (profile) [admitted, declared_set]
-- The set key of its attributes, or the first of: stranger, unknown instrument, the refusals of
-- attributes, with combination as the last, value range.
abbrev pub admitted : ProviderValue → RecorderValue → ℕ → List Given → ℤ → Result (List ℕ) Refusal
admitted p seat instrument attrs value =
    require (is_recorder_of p seat) Stranger >>= λ _.
    declared_set p.plan instrument attrs value

-- The plan has the instrument and the recorder, the instrument allows the
-- set key and the value is in range.
pub record KnowsRecording (plan : PlanValue) (instrument by : ℕ) (set : List ℕ) (value : ℤ)
    : Type 0 where
  pub known : instrument < length plan.facts.instruments
  pub recorder : by < length plan.facts.contents.recorders
  pub allowed : (own : Facts) → slice_get plan.facts.instruments instrument ≡ Some own
      → is_allowed_set own set ≡ true
  pub ranged : (own : Facts) → slice_get plan.facts.instruments instrument ≡ Some own
      → in_bounds own value ≡ true

-- what a recorder was told of the instrument of a number
abbrev pub told_at : RecorderValue → ℕ → Told
told_at seat instrument = slice_index_or seat.told instrument nothing_told

-- what refuses an admitted recording under the lock: `Budget` only where the recorder was told of
-- as many as its budget, `Memory` only where recordings on the instrument take some
abbrev pub RefusesRecording : (Facts → Type 0) → Facts → ℕ → Told → Refusal → Type 0
RefusesRecording spares_memory own recorder told Stranger = Unit {0}
RefusesRecording spares_memory own recorder told Closed = Unit {0}
RefusesRecording spares_memory own recorder told Budget =
    slice_index own.budgets recorder ≤ told.count
RefusesRecording spares_memory own recorder told Memory = ¬ spares_memory own
RefusesRecording spares_memory own recorder told other = ⊥

-- # what a seat is answered (Metrics API, synchronous instruments) [AnswersSeat, RefusesRecording,
-- SeatSpares]
-- What refuses its admission, else what the lock's call answers: `Budget` only where the recorder
-- was told of as many as its budget, `Memory` only where the book keeps its entries or does not
-- spare it, and nothing for a sum.
abbrev pub AnswersSeat : (Facts → Type 0) → Result (List ℕ) Refusal → PlanValue → RecorderValue → ℕ
    → Result (Unit {0}) Refusal → Type 0
AnswersSeat spares_memory (Err first) plan seat instrument (Err refusal) = refusal ≡ first
AnswersSeat spares_memory (Err first) plan seat instrument (Ok done) = ⊥
AnswersSeat spares_memory (Ok set) plan seat instrument (Ok done) = Unit {0}
AnswersSeat spares_memory (Ok set) plan seat instrument (Err refusal) =
    IfSome (slice_get plan.facts.instruments instrument) (λ (own : Facts).
    RefusesRecording spares_memory own seat.number (told_at seat instrument) refusal)

-- the seat that was told of one recording more, of this value on an instrument with these facts
abbrev pub with_recording : RecorderValue → ℕ → Facts → ℤ → RecorderValue
with_recording seat instrument own value = record seat {
  told = slice_set seat.told instrument (told_more (told_at seat instrument) own.lo value);
}

-- ---- slips

-- recordings by a seat allocate no memory: none for the book, and none for slips, since it keeps no
-- entries
abbrev pub SeatSpares : Bool → (Facts → Type 0) → Facts → Type 0
SeatSpares keeps spares_memory own = (keeps ≡ false) × spares_memory own

-- the seat with these slips put last, where slips are kept
abbrev pub with_slips : Bool → RecorderValue → ℕ → List Slip → RecorderValue
with_slips keeps seat instrument more =
    if keeps then
    (record seat { slips = slice_set seat.slips instrument (slips_at seat instrument ++ more) })
    else seat

-- the seat that was told of a recording of this set key and this value, with its slip
abbrev pub with_slip : Bool → RecorderValue → ℕ → Facts → List ℕ → ℤ → RecorderValue
with_slip keeps seat instrument own set value =
    with_slips keeps (with_recording seat instrument own value) instrument
    (record { set = set; value = value } ∷ [])

-- # slip of a recording (profile) [IsToldOf, with_slip]
-- Where the book keeps its entries, the seat puts the set key and the value last among its slips of
-- the instrument.
abbrev pub IsToldOf : Bool → Result (List ℕ) Refusal → PlanValue → RecorderValue → RecorderValue
    → ℕ → ℤ → Type 0
IsToldOf keeps (Err first) plan old new instrument value = ⊥
IsToldOf keeps (Ok set) plan old new instrument value =
    IfSome (slice_get plan.facts.instruments instrument)
    (λ (own : Facts). new ≡ with_slip keeps old instrument own set value)

-- what refuses a slip before the lock: the seat has no list for the instrument, or memory ran out
abbrev pub RefusesSlip : Refusal → Type 0
RefusesSlip Stranger = Unit {0}
RefusesSlip Memory = Unit {0}
RefusesSlip other = ⊥
