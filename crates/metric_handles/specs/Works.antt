-- Work round which recordings are made.
use Rattle.std.specs.Prelude.{◌≡◌, ◌≢◌, ◌<◌, ◌≤◌, ◌+◌, ◌-◌, ◌⊎◌, ℕ, ℤ, true, false, Option, Some, None}
use Rattle.std.specs.Prelude.{Result, Ok, Err, IsSomeAnd, pos, negsuc, slice_get, slice_index}
use Rattle.metric_contents.specs.declared.refusal.Refusal.{Refusal}
use Rattle.metric_contents.specs.declared.refusal.Refusal.TheVariants.{Stranger, UnknownInstrument}
use Rattle.metric_contents.specs.declared.refusal.Refusal.TheVariants.{ValueRange, Budget}
use Rattle.metric_facts.specs.declared.facts.Facts.{Facts}
use Rattle.metric_facts.specs.Facts.{in_bounds}
use Rattle.metric_plan.specs.Plans.{PlanValue, print_of}
use Rattle.metric_seat.specs.Recordings.{told_at}
use Rattle.metric_seat.specs.Seats.{ProviderValue, RecorderValue}
use Rattle.metric_handles.specs.Bounds.{BoundValue}
use Rattle.metric_handles.specs.Jobs.{TellsNeed}
use Rattle.metric_handles.specs.TimeUnits.{whole_in}
use Rattle.metric_handles.specs.declared.jobs.Need.{Need}
use Rattle.metric_handles.specs.declared.time_unit.TimeUnit.{TimeUnit}
use Rattle.metric_handles.specs.declared.timed.TimedFault.{TimedFault}
use Rattle.metric_handles.specs.declared.timed.TimedFault.TheVariants as faults

-- # way back of a count (profile) [HasWayBack, TakesBack, LacksWayBack]
-- The instrument's range has -1, and the recorder's budget with the whole spare has room for what
-- is added and for what is taken away.
pub record HasWayBack (plan : PlanValue) (seat : RecorderValue) (instrument : ℕ) : Type 0 where
  pub ranged : (own : Facts) → slice_get plan.facts.instruments instrument ≡ Some own
      → in_bounds own (negsuc 0) ≡ true
  pub room : (own : Facts) → slice_get plan.facts.instruments instrument ≡ Some own
      → (told_at seat instrument).count + 2 ≤ slice_index own.budgets seat.number + own.spare

-- Attributes are bound in the plan to an instrument of these facts, whose range has -1.
pub record TakesBack (plan : PlanValue) (bound : BoundValue) (own : Facts) : Type 0 where
  pub own_plan : bound.plan ≡ print_of plan
  pub found : slice_get plan.facts.instruments bound.instrument ≡ Some own
  pub ranged : in_bounds own (negsuc 0) ≡ true

-- why there is no way back, whatever room there is: the attributes are bound in another plan, the
-- plan has no such instrument, or its range lacks -1
abbrev pub LacksWayBack : PlanValue → BoundValue → Refusal → Type 0
LacksWayBack plan bound Stranger = bound.plan ≢ print_of plan
LacksWayBack plan bound UnknownInstrument =
    (bound.plan ≡ print_of plan)
    × (slice_get plan.facts.instruments bound.instrument ≡ None)
LacksWayBack plan bound ValueRange =
    (bound.plan ≡ print_of plan)
    × IsSomeAnd (slice_get plan.facts.instruments bound.instrument) (λ (own : Facts).
    in_bounds own (negsuc 0) ≡ false)
LacksWayBack plan bound other = ⊥

-- ---- room for what is added and for what is taken away

-- Enough room is told.
pub record TellsEnough (tells : Result ℕ Refusal → Type 0) : Type 0 where
  pub room : ℕ
  pub told : tells (Ok room)
  pub enough : 2 ≤ room

-- Less room is told.
pub record TellsLess (tells : Result ℕ Refusal → Type 0) : Type 0 where
  pub room : ℕ
  pub told : tells (Ok room)
  pub less : room < 2

-- No room is told.
pub record TellsNone (tells : Result ℕ Refusal → Type 0) : Type 0 where
  pub why : Refusal
  pub told : tells (Err why)

-- what is needed on an instrument that attributes are bound to: two recordings
abbrev pub both_of : BoundValue → Need
both_of bound = record { plan = bound.plan; instrument = bound.instrument; count = 2 }

-- # room for both recordings (profile) [HasRoomForBoth, LacksRoomForBoth, LacksBoth]
-- Two are left of the budget alone, or as much room is told; else less is told, or none.
abbrev pub HasRoomForBoth : (Result ℕ Refusal → Type 0) → ℕ → Type 0
HasRoomForBoth tells left = (2 ≤ left) ⊎ TellsEnough tells

-- why there is none: the budget alone has not enough, and what is told either
abbrev pub LacksRoomForBoth : (Result ℕ Refusal → Type 0) → ℕ → Refusal → Type 0
LacksRoomForBoth tells left Budget = (left < 2) × TellsLess tells
LacksRoomForBoth tells left Stranger = (left < 2) × TellsNone tells
LacksRoomForBoth tells left other = ⊥

-- Both lack room: the range has -1, but neither the budget alone nor the room that is then told is
-- enough; the lock, which is asked for that, may take the seat for a stranger.
pub record LacksBoth (p : ProviderValue) (seat : RecorderValue) (bound : BoundValue)
    (refusal : Refusal) : Type 0 where
  pub own : Facts
  pub takes_back : TakesBack p.plan bound own
  pub lacks : LacksRoomForBoth (TellsNeed p seat (both_of bound))
      (slice_index own.budgets seat.number - (told_at seat bound.instrument).count) refusal

-- # counted while it goes on (profile) [ComesBack, Begins, BeginsAsked, Ends]
-- The seat is asked to make room for two recordings. Then one is added, where it has a way back, or
-- refused; then the work is done, and where one was added, it is taken away after it. The answer is
-- the first refusal. Without a way back, whatever room there is, the seat is not asked.
abbrev pub GoesOn : {S : Type 0} → (S → RecorderValue)
    → (ℤ → S → S → Result (Unit {0}) Refusal → Type 0) → ProviderValue → BoundValue → S → S
    → Result (Unit {0}) Refusal → Type 0
GoesOn {S} seat makes p bound asked new (Ok began) =
    HasWayBack p.plan (seat asked) bound.instrument × makes (pos 1) asked new (Ok began)
GoesOn {S} seat makes p bound asked new (Err refusal) =
    makes (pos 1) asked new (Err refusal)
    ⊎ ((new ≡ asked) × LacksBoth p (seat asked) bound refusal)

pub record BeginsAsked {S : Type 0} (seat : S → RecorderValue) (asks : S → S → ℕ → ℕ → Type 0)
    (makes : ℤ → S → S → Result (Unit {0}) Refusal → Type 0) (p : ProviderValue)
    (bound : BoundValue) (old new : S) (result : Result (Unit {0}) Refusal) : Type 0 where
  pub asked : S
  pub room : asks old asked bound.instrument 2
  pub same : seat asked ≡ seat old
  pub goes_on : GoesOn seat makes p bound asked new result

abbrev pub Begins : {S : Type 0} → (S → RecorderValue) → (S → S → ℕ → ℕ → Type 0)
    → (ℤ → S → S → Result (Unit {0}) Refusal → Type 0) → ProviderValue → BoundValue → S → S
    → Result (Unit {0}) Refusal → Type 0
Begins {S} seat asks makes p bound old new (Ok began) =
    BeginsAsked seat asks makes p bound old new (Ok began)
Begins {S} seat asks makes p bound old new (Err refusal) =
    BeginsAsked seat asks makes p bound old new (Err refusal)
    ⊎ ((new ≡ old) × LacksWayBack p.plan bound refusal)

-- what the end comes to: one is taken away, or nothing where none was added
abbrev pub Ends : {S : Type 0} → (ℤ → S → S → Result (Unit {0}) Refusal → Type 0) → S → S
    → Result (Unit {0}) Refusal → Result (Unit {0}) Refusal → Type 0
Ends {S} makes old new (Ok began) result = makes (negsuc 0) old new result
Ends {S} makes old new (Err refusal) result = (new ≡ old) × (result ≡ Err refusal)

pub record ComesBack {S T : Type 0} (seat : S → RecorderValue) (asks : S → S → ℕ → ℕ → Type 0)
    (makes : ℤ → S → S → Result (Unit {0}) Refusal → Type 0) (works : S → T → S → Type 0)
    (p : ProviderValue) (bound : BoundValue) (old new : S) (done : T)
    (result : Result (Unit {0}) Refusal) : Type 0 where
  pub before : S
  pub after : S
  pub began : Result (Unit {0}) Refusal
  pub begins : Begins seat asks makes p bound old before began
  pub worked : works before done after
  pub ends : Ends makes after new began result

-- what a duration of so many nanoseconds comes to: a recording of its whole units
abbrev pub RecordsTime : {S : Type 0} → TimeUnit
    → (ℤ → S → S → Result (Unit {0}) Refusal → Type 0) → ℕ → S → S
    → Result (Unit {0}) TimedFault → Type 0
RecordsTime {S} own makes nanos old new (Ok done) = makes (whole_in own nanos) old new (Ok done)
RecordsTime {S} own makes nanos old new (Err (faults.Refused refusal)) =
    makes (whole_in own nanos) old new (Err refusal)
RecordsTime {S} own makes nanos old new (Err faults.Clock) = ⊥

-- what is recorded of the time between two readings of a clock, where both could be read
abbrev pub TellsTime : {S M : Type 0} → (M → ℕ) → TimeUnit
    → (ℤ → S → S → Result (Unit {0}) Refusal → Type 0) → Option M → Option M → S → S
    → Result (Unit {0}) TimedFault → Type 0
TellsTime {S} {M} nanos own makes (Some first) (Some last) old new result =
    RecordsTime own makes (nanos last - nanos first) old new result
TellsTime {S} {M} nanos own makes first last old new result =
    (new ≡ old) × (result ≡ Err faults.Clock)

-- # timed work (profile) [IsTimed, TellsTime, RecordsTime]
-- The work is done, and then the time between two readings of a clock is recorded in whole units of
-- the instrument; nothing is where the clock could not be read.
pub record IsTimed {S T M : Type 0} (nanos : M → ℕ) (own : TimeUnit)
    (makes : ℤ → S → S → Result (Unit {0}) Refusal → Type 0) (works : S → T → S → Type 0)
    (old new : S) (done : T) (result : Result (Unit {0}) TimedFault) : Type 0 where
  pub after : S
  pub first : Option M
  pub last : Option M
  pub worked : works old done after
  pub told : TellsTime nanos own makes first last after new result

-- # clock read before and after work (profile) [IsTimedBy]
-- The first reading is made beside the seat as it was before the work, the last one beside the seat
-- as the work left it, and there is no other.
pub record IsTimedBy {S T M C : Type 0} (reads : C → C → S → Option M → Type 0) (nanos : M → ℕ)
    (own : TimeUnit) (makes : ℤ → S → S → Result (Unit {0}) Refusal → Type 0)
    (works : S → T → S → Type 0) (early late : C) (old new : S) (done : T)
    (result : Result (Unit {0}) TimedFault) : Type 0 where
  pub timed : IsTimed nanos own makes works old new done result
  pub between : C
  pub began : reads early between old timed.first
  pub ended : reads between late timed.after timed.last
