-- What a provider comes to when it is finished.
use Rattle.std.specs.Prelude.{◌≡◌, ◌<◌, ◌+◌, ◌^◌, ℕ, Bool, true, not, ◌||◌, ◌==◌, All, List, [], ◌∷◌, Some}
use Rattle.std.specs.Prelude.{Result, Ok, Err, filter, length, map, slice_get, if◌then◌else◌}
use Rattle.std.specs.List.{list_all, range_with_len}
use Rattle.metric_base.specs.Steps.{◌>>=◌, require}
use Rattle.metric_aggregate.specs.Value.{sum_of}
use Rattle.metric_history.specs.Journals.{kept_of}
use Rattle.metric_history.specs.Slips.{slips_of}
use Rattle.metric_history.specs.declared.slip.Slip.{Slip}
use Rattle.metric_core.specs.Cells.{CellValue}
use Rattle.metric_facts.specs.declared.facts.Facts.{Facts}
use Rattle.metric_history.specs.Points.{values}
use Rattle.metric_history.specs.declared.entry.Entry.{Entry}
use Rattle.metric_plan.specs.Plans.{PlanValue}
use Rattle.metric_safety.specs.SafeFacts.{are_admitted}
use Rattle.metric_seat.specs.declared.fault.FinishFault.{FinishFault}
use Rattle.metric_seat.specs.declared.fault.FinishFault.TheVariants.{RecorderMissing, Stranger}
use Rattle.metric_seat.specs.declared.fault.FinishFault.TheVariants.{AuditMismatch, Memory}
use Rattle.metric_seat.specs.declared.total.Total.{Total}
use Rattle.metric_seat.specs.Recordings.{told_at}
use Rattle.metric_seat.specs.Seats.{ProviderValue, RecorderValue, is_recorder_of, slips_at}
use Rattle.metric_seat.specs.Settlements.{IsToldBy, are_distinct, has_each, has_seat, told_count}
use Rattle.metric_seat.specs.Settlements.{told_sum, told_total}
use Rattle.metric_slot.specs.declared.told.Told.{Told}
use Rattle.metric_provider.specs.Lanes.{count_over, kept_by, numbers_over}

-- the number of a seat's recorder
abbrev pub number_of : RecorderValue → ℕ
number_of seat = seat.number

-- what the recorder of a seat was told of the instrument of a number
abbrev pub told_on : ℕ → RecorderValue → Told
told_on instrument seat = told_at seat instrument

-- # told totals (profile)
-- For each instrument how many recordings its recorders were told of, and the sum of their values.
abbrev pub told_totals : List RecorderValue → ℕ → List Facts → List Total
told_totals seats number [] = []
told_totals seats number (own ∷ all) =
    told_total (told_on number) own.lo seats ∷ told_totals seats (number + 1) all

-- ---- whose seats they are

-- # partly seated (profile)
-- The seats are of this provider, and no number stands twice; or the fault.
abbrev pub partly_seated : ProviderValue → List RecorderValue → Result (Unit {0}) FinishFault
partly_seated p seats =
    require (list_all (is_recorder_of p) seats) Stranger >>= λ _.
    require (are_distinct number_of seats) Stranger

-- the same, and where all are to be there none is missing; or the first fault
abbrev pub seated_by : Bool → ProviderValue → List RecorderValue → Result (Unit {0}) FinishFault
seated_by all p seats =
    partly_seated p seats >>= λ _.
    require (not all || has_each number_of seats (length p.plan.facts.contents.recorders))
    RecorderMissing

-- # seated (profile)
-- The seats are of this provider, no number stands twice, and none is missing; or the first fault.
abbrev pub seated : ProviderValue → List RecorderValue → Result (Unit {0}) FinishFault
seated p seats = seated_by true p seats

-- # missing recorders (profile)
-- Those of the plan that have no seat, in ascending order.
abbrev pub missing_of : List RecorderValue → ℕ → List ℕ
missing_of seats recorders =
    filter (λ number. not (has_seat number_of seats number)) (range_with_len 0 recorders)

-- ---- what they were told, and what the instruments have

-- the slips of each seat are the entries of its recorder, each once, in their order
abbrev pub AreNoted : List RecorderValue → ℕ → List Entry → Type 0
AreNoted seats instrument entries =
    All (λ (seat : RecorderValue). slips_at seat instrument ≡ slips_of seat.number entries) seats

-- # settled (profile) [IsSettled, AreSettled, AreNoted]
-- Each lane of an instrument has the plan's facts, a u64 counts their recordings, their numbers
-- together are by what the recorders were told, of which all have seats or some, and each
-- recorder's slips are its entries among those that the books keep.
pub record IsSettled {B : Type 0} (whole : Bool) (kept : B → List Entry) (own : Facts)
    (cells : List (CellValue B)) (seats : List RecorderValue) (instrument : ℕ) : Type 0 where
  pub facts : All (λ (c : CellValue B). c.facts ≡ own) cells
  pub few : count_over cells < 2 ^ 64
  pub numbers : IsToldBy whole number_of (told_on instrument) (numbers_over own.lo cells) seats
  pub noted : AreNoted seats instrument (kept_by kept cells)

-- the lanes of each instrument are
abbrev pub AreSettled : {B : Type 0} → Bool → (B → List Entry) → List Facts
    → List (List (CellValue B)) → List RecorderValue → Type 0
AreSettled {B} whole kept instruments lanes seats =
    (i : ℕ) (own : Facts) (cells : List (CellValue B)) → slice_get instruments i ≡ Some own
    → slice_get lanes i ≡ Some cells → IsSettled whole kept own cells seats i

-- what refuses the totals: those of some instrument are not, or memory ran out
abbrev pub RefusesTotals : {B : Type 0} → Bool → (B → List Entry) → List Facts
    → List (List (CellValue B)) → List RecorderValue → FinishFault → Type 0
RefusesTotals whole kept instruments lanes seats AuditMismatch =
    AreSettled whole kept instruments lanes seats → ⊥
RefusesTotals whole kept instruments lanes seats Memory = Unit {0}
RefusesTotals whole kept instruments lanes seats other = ⊥

-- what refuses to finish with these seats: their own fault, else what the totals refuse
abbrev pub RefusesFinish : Result (Unit {0}) FinishFault → FinishFault → Type 0
RefusesFinish (Err first) fault = fault ≡ first
RefusesFinish (Ok done) AuditMismatch = Unit {0}
RefusesFinish (Ok done) Memory = Unit {0}
RefusesFinish (Ok done) other = ⊥

-- ---- journals and slips

-- the slips on an instrument of the seat of the recorder of a number
abbrev pub slips_by : List RecorderValue → ℕ → ℕ → List Slip
slips_by [] number instrument = []
slips_by (seat ∷ seats) number instrument =
    if seat.number == number then slips_at seat instrument else slips_by seats number instrument

-- those of each of so many recorders, in their order
abbrev pub slips_on : List RecorderValue → ℕ → ℕ → List (List Slip)
slips_on seats recorders instrument =
    map (λ number. slips_by seats number instrument) (range_with_len 0 recorders)

-- # slips handed out (profile) [slips_of_seats, entries_by]
-- For each instrument those of each recorder, both in order; each recorder's entries in each
-- journal.
abbrev pub slips_of_seats : List RecorderValue → ℕ → ℕ → List (List (List Slip))
slips_of_seats seats recorders instruments =
    map (slips_on seats recorders) (range_with_len 0 instruments)

-- each recorder's entries in a journal
abbrev pub entries_by : ℕ → List Entry → List (List Slip)
entries_by recorders journal = map (λ number. slips_of number journal) (range_with_len 0 recorders)

-- # told journal (profile) [IsToldJournal, AreToldJournals]
-- The accepted recordings of an instrument are as many as its recorders were told of, with the same
-- sum, and the instrument admits each; the journal has all of them, or none.
pub record IsToldJournal (keeps : Bool) (own : Facts) (seats : List RecorderValue) (instrument : ℕ)
    (journal : List Entry) : Type 0 where
  pub accepted : List Entry
  pub kept : journal ≡ kept_of keeps accepted
  pub counted : length accepted ≡ told_count (told_on instrument) seats
  pub summed : sum_of (values accepted) ≡ told_sum (told_on instrument) own.lo seats
  pub admitted : are_admitted own accepted ≡ true

-- there is such a journal of each instrument
pub record AreToldJournals (keeps : Bool) (instruments : List Facts) (seats : List RecorderValue)
    (journals : List (List Entry)) : Type 0 where
  pub one_each : length journals ≡ length instruments
  pub told : (i : ℕ) (own : Facts) (journal : List Entry) → slice_get instruments i ≡ Some own
      → slice_get journals i ≡ Some journal
      → IsToldJournal keeps own seats i journal

-- the entries that the books of each instrument's lanes keep are such a journal
abbrev pub KeepToldJournals : {B : Type 0} → (B → List Entry) → Bool → List Facts
    → List (List (CellValue B)) → List RecorderValue → Type 0
KeepToldJournals {B} kept keeps instruments lanes seats =
    (i : ℕ) (own : Facts) (cells : List (CellValue B)) → slice_get instruments i ≡ Some own
    → slice_get lanes i ≡ Some cells → IsToldJournal keeps own seats i (kept_by kept cells)

-- What a finished provider comes to: the totals are what the recorders were told, there is a
-- journal of each instrument, and the slips are those of the seats, which are each recorder's
-- entries in each journal, each once, in their order.
pub record Finishes (keeps : Bool) (plan : PlanValue) (seats : List RecorderValue)
    (totals : List Total) (journals : List (List Entry)) (slips : List (List (List Slip)))
    : Type 0 where
  pub told : totals ≡ told_totals seats 0 plan.facts.instruments
  pub accepted : AreToldJournals keeps plan.facts.instruments seats journals
  pub noted : slips ≡ slips_of_seats seats (length plan.facts.contents.recorders)
      (length plan.facts.instruments)
  pub entries : slips ≡ map (entries_by (length plan.facts.contents.recorders)) journals
