-- An outlet: a reader's seat and its way out, over all runs.
use Rattle.std.specs.Prelude.{◌≡◌, ◌≢◌, ◌⊎◌, ◌==◌, ◌<◌, ◌*◌, ◌-◌, ◌^◌, ℕ, zero, suc}
use Rattle.std.specs.Prelude.{Bool, true, false, not, ◌||◌, ◌&&◌}
use Rattle.std.specs.Prelude.{List, [], Option, Some, None, Result, Ok, Err}
use Rattle.std.specs.Prelude.{drop, filter, if◌then◌else◌, is_none, is_some, length, map, max}
use Rattle.std.specs.Prelude.{min, nat_le, nat_lt, remove, replicate, slice_get}
use Rattle.std.specs.Option.{option_map}
use Rattle.std.specs.List.{position_from}
use Rattle.metric_io.specs.Counts.{higher_count}
use Rattle.metric_history.specs.declared.batch.Batch.{Batch}
use Rattle.metric_export.specs.ExporterCalls.{Calls}
use Rattle.metric_export.specs.Handings.{HandsOnInOrder}
use Rattle.metric_export.specs.declared.fault.ExportFault.{ExportFault}
use Rattle.metric_export.specs.declared.fault.ExportFault.TheVariants as fault
use Rattle.metric_plan.specs.Plans.{PlanValue}
use Rattle.metric_seat.specs.Seats.{CollectorValue, ProviderValue}
use Rattle.metric_periodic.specs.Each.{CollectsAll}
use Rattle.metric_periodic.specs.Exported.{Answered, ExportsEach, Flushes, IsFlushed, Retries}
use Rattle.metric_periodic.specs.Exported.{RetriesWhere, Tally, tally, with_refusal}
use Rattle.metric_periodic.specs.Shown.{Notes, in_next_run, is_told}
use Rattle.metric_periodic.specs.Ticks.{is_woken, moment_of, was_asked, was_set}
use Rattle.metric_periodic.specs.declared.each.RefusedInstrument.{RefusedInstrument}
use Rattle.metric_periodic.specs.declared.ended.ReaderEnd.{ReaderEnd}
use Rattle.metric_periodic.specs.declared.ended.Uncollected.{Uncollected}
use Rattle.metric_periodic.specs.declared.ended.Uncollected.TheVariants.{All, Instruments}
use Rattle.metric_periodic.specs.declared.ended.Unexported.{Unexported}
use Rattle.metric_periodic.specs.declared.shown.Shown.{Shown}
use Rattle.metric_periodic.specs.declared.tick.Tick.{Tick}
use Rattle.metric_periodic.specs.declared.tick.Tick.TheVariants.{At, Woken}
use Rattle.metric_periodic.specs.declared.watch.Waited.{Waited}
use Rattle.metric_periodic.specs.declared.watch.Waited.TheVariants as waited
use Rattle.metric_seat.specs.declared.total.Total.{Total}
use Rattle.metric_slot.specs.declared.seen.Seen.{Seen}

-- ---- collections of an outlet

-- a reader's seat, and what may still be shown of each instrument
pub record Showing : Type 0 where
  pub seat : CollectorValue
  pub shown : List Shown

-- All instruments were collected, and these are the batches that are handed on.
pub record Gathers (p : ProviderValue) (now : ℕ) (old new : Showing) (batches : List Batch)
    (refused : List RefusedInstrument) : Type 0 where
  pub given : List Batch
  pub all : CollectsAll p now old.seat new.seat given refused
  pub told : batches ≡ filter (is_told old.shown) given
  pub shown : new.shown ≡ old.shown

-- the instruments that were refused, as they are told where there is one
abbrev pub AreRefused : List RefusedInstrument → Option Uncollected → Type 0
AreRefused refused None = refused ≡ []
AreRefused refused (Some All) = ⊥
AreRefused refused (Some (Instruments told)) = (told.items ≡ refused) × (refused ≢ [])

-- A collection at a time, the batches that it hands on, and what it was refused. Either memory ran
-- out for the lists and nothing was collected, or a refused instrument hides no other.
abbrev pub CollectsTold : ProviderValue → ℕ → Showing → Showing → List Batch → Option Uncollected
    → Type 0
CollectsTold p now old new batches None = Gathers p now old new batches []
CollectsTold p now old new batches (Some All) = (new ≡ old) × (batches ≡ [])
CollectsTold p now old new batches (Some (Instruments refused)) =
    Gathers p now old new batches refused.items × (refused.items ≢ [])

-- what is noted of batches that were handed on, by whether one was refused
abbrev pub NotesHanded : Bool → List Batch → Showing → Showing → Type 0
NotesHanded is_refused batches old new =
    (new.seat ≡ old.seat) × Notes is_refused batches old.shown new.shown

-- ---- an outlet

-- the seat with what is shown, the exporter with the counts, the milliseconds between two turns,
-- and the moment at which the next one is due
pub record OutletValue (E : Type 0) : Type 0 where
  pub showing : Showing
  pub counts : Tally E
  pub period : ℕ
  pub due : ℕ

-- nothing may be shown
abbrev pub unshown : Shown
unshown = record { this_run = false; ended_run = false }

-- an outlet that has handed nothing on
abbrev pub new_outlet : {E : Type 0} → PlanValue → CollectorValue → E → ℕ → OutletValue E
new_outlet plan seat exporter milliseconds = record {
  showing = record { seat = seat; shown = replicate (length plan.facts.instruments) unshown };
  counts = tally exporter 0 0 0 0 0;
  period = max milliseconds 1;
  due = 0;
}

-- # turn of an outlet (profile) [TurnsOutlet, Gathers, CollectsTold, NotesHanded]
-- A collection at the moment of a tick of each instrument, once, in which a refused one hides no
-- other; each batch that is told was handed on once, in order, and counted; what is kept was tried
-- again where that was asked for or nothing was handed on; and then one flush.
pub record TurnsOutlet {E : Type 0} (p : ProviderValue) (calls : Calls E) (tick : Tick)
    (old new : Showing) (before after : Tally E) : Type 0 where
  pub mid : Showing
  pub batches : List Batch
  pub uncollected : Option Uncollected
  pub collected : CollectsTold p (moment_of tick) old mid batches uncollected
  pub between : Tally E
  pub handed : ExportsEach calls.exports (with_refusal before (is_some uncollected)) between batches
  pub noted : NotesHanded (not (between.failed == before.failed)) batches mid new
  pub settled : Tally E
  pub retried : RetriesWhere (is_woken tick || (length batches == 0)) calls.retries between settled
  pub flushed : IsFlushed calls.flushes settled after

-- the moment so many milliseconds after another one
abbrev pub due_after : ℕ → ℕ → ℕ
due_after now milliseconds = higher_count now (min (milliseconds * 1000000) (2 ^ 64 - 1))

-- A turn and the moment of the next one.
pub record TurnsOn {E : Type 0} (p : ProviderValue) (calls : Calls E) (tick : Tick)
    (old new : OutletValue E) : Type 0 where
  pub turn : TurnsOutlet p calls tick old.showing new.showing old.counts new.counts
  pub period : new.period ≡ old.period
  pub due : new.due ≡ due_after (moment_of tick) old.period

-- the tick of a turn that is asked for or due, if there is one
abbrev pub tick_due : ℕ → ℕ → Bool → Option Tick
tick_due due now true = Some (Woken now)
tick_due due now false = if nat_lt 0 due && nat_le due now then Some (At now) else None

-- an outlet of which nothing is due: the first call of a run begins the wait
abbrev pub waiting_from : {E : Type 0} → ℕ → OutletValue E → OutletValue E
waiting_from now outlet = record outlet {
  due = if outlet.due == 0 then due_after now outlet.period else outlet.due;
}

-- a turn, or none
abbrev pub TurnsBy : {E : Type 0} → ProviderValue → Calls E → ℕ → Option Tick → OutletValue E
    → OutletValue E → Type 0
TurnsBy p calls now (Some tick) old new = TurnsOn p calls tick old new
TurnsBy p calls now None old new = new ≡ waiting_from now old

-- What a call for a turn does, and when the next one is due.
pub record TurnsWhenDue {E : Type 0} (p : ProviderValue) (calls : Calls E) (now : ℕ)
    (is_asked : Bool) (old new : OutletValue E) (next : ℕ) : Type 0 where
  pub turn : TurnsBy p calls now (tick_due old.due now is_asked) old new
  pub next_is : next ≡ new.due

-- why a seat and an exporter do not go together, by whether the one takes the batches of the other
abbrev pub IsLeftBy : Bool → ExportFault → Type 0
IsLeftBy false why = why ≡ fault.OtherReader
IsLeftBy true why = why ≡ fault.Memory

-- ---- the end of a run

-- What is left of batches of which so many were taken: nothing, or the one that was refused by a
-- fault with those after it.
abbrev pub IsLeft : List Batch → ℕ → Option ExportFault → Option Unexported → Type 0
IsLeft batches taken None None = Unit {0}
IsLeft batches taken None (Some left) = ⊥
IsLeft batches taken (Some fault) None = ⊥
IsLeft batches taken (Some fault) (Some left) =
    (left.fault ≡ fault) × (left.batches.items ≡ drop taken batches)

-- the answer that had this fault, or none
abbrev pub answer_of : Option ExportFault → Result (Unit {0}) ExportFault
answer_of None = Ok tt
answer_of (Some fault) = Err fault

-- # end of a run of an outlet (SDK, shutdown) [EndsOutlet, CollectsTold, IsLeft]
-- A last collection, of which each batch that is told was handed on in order, up to the first that
-- was refused; then a new try of what the exporter keeps, and a flush. Whatever is left is told.
pub record EndsOutlet {E : Type 0} (p : ProviderValue) (now : ℕ) (calls : Calls E)
    (old new : OutletValue E) (end : ReaderEnd) : Type 0 where
  pub reader : end.reader ≡ old.showing.seat.number
  pub mid : Showing
  pub batches : List Batch
  pub collected : CollectsTold p now old.showing mid batches end.uncollected
  pub between : Tally E
  pub taken : ℕ
  pub refused : Option ExportFault
  pub handed : HandsOnInOrder (Answered calls.exports)
      (with_refusal old.counts (is_some end.uncollected)) between batches taken refused
  pub noted : NotesHanded (is_some refused) batches mid new.showing
  pub left : IsLeft batches taken refused end.unexported
  pub settled : Tally E
  pub retried : Retries calls.retries between settled (answer_of end.unsent)
  pub flushed : Flushes calls.flushes settled new.counts (answer_of end.unflushed)
  pub period : new.period ≡ old.period
  pub due : new.due ≡ old.due

-- That the last batches of a seat count all that these totals do.
abbrev pub Counts : CollectorValue → List Total → Type 0
Counts seat totals =
    (instrument : ℕ) (total : Total) → instrument < 2 ^ 32
    → slice_get totals instrument ≡ Some total
    → option_map (λ (seen : Seen). seen.mark) (slice_get seat.seen instrument) ≡ Some total.count

-- whether a reader was refused no instrument
abbrev pub is_collected : ReaderEnd → Bool
is_collected end = is_none end.uncollected

-- whether nothing that it collected is handed back
abbrev pub is_exported : ReaderEnd → Bool
is_exported end = is_none end.unexported

-- whether nothing is left
abbrev pub is_clean : ReaderEnd → Bool
is_clean end =
    (is_collected end && is_exported end) && (is_none end.unsent && is_none end.unflushed)

-- ---- the next run

-- with the seat of the reader in the next run
abbrev pub next_showing : Showing → CollectorValue → Showing
next_showing old seat = record { seat = seat; shown = map in_next_run old.shown }

-- the place of the first seat of a reader
abbrev pub seat_place : ℕ → List CollectorValue → Option ℕ
seat_place reader seats = position_from (λ seat. seat.number == reader) 0 seats

-- an outlet with it
abbrev pub with_seat : {E : Type 0} → OutletValue E → CollectorValue → OutletValue E
with_seat outlet seat = record outlet {
  showing = next_showing outlet.showing seat;
  due = 0;
}

-- an outlet goes on with the seat of a place, and the others are left; without one nothing changes
abbrev pub Begins : {E : Type 0} → Option ℕ → OutletValue E → OutletValue E → List CollectorValue
    → List CollectorValue → Bool → Type 0
Begins None old new seats left is_there = (new ≡ old) × ((left ≡ seats) × (is_there ≡ false))
Begins (Some place) old new seats left is_there =
    (seat : CollectorValue) × ((slice_get seats place ≡ Some seat) × ((new ≡ with_seat old seat)
    × ((left ≡ remove seats place) × (is_there ≡ true))))

-- ---- the turns of a run

-- what is said of a call for a turn: the moment, whether it was asked for, the outlets before and
-- after it, and when the next one is due
abbrev pub Turning : Type 0 → Type 1
Turning O = ℕ → Bool → O → O → ℕ → Type 0

-- A call for a turn at the moment that the clock tells, or at the last one where the clock went
-- back; then a wait until the next turn is due, of an hour at most, which this ended.
pub record TurnsAndWaits {O : Type 0} (turns : Turning O) (waits : ℕ → Waited → Type 0)
    (reads : Option ℕ → Type 0) (last : ℕ) (is_asked : Bool) (old new : O) (now : ℕ)
    (ended : Waited) : Type 0 where
  pub moment : ℕ
  pub read : reads (Some moment)
  pub now_is : now ≡ max last moment
  pub due : ℕ
  pub turn : turns now is_asked old new due
  pub waited : waits (min (due - now) 3600000000000) ended

-- So many of these, one after the other. The flag ended none of the waits; where one was ended by a
-- call for a tick, the next turn is asked for.
abbrev pub AreTurnsOf : {O : Type 0} → Turning O → (ℕ → Waited → Type 0) → (Option ℕ → Type 0) → ℕ
    → O → O → ℕ → Bool → Type 0
AreTurnsOf turns waits reads zero old new now is_asked =
    (new ≡ old) × ((now ≡ 0) × (is_asked ≡ false))
AreTurnsOf {O} turns waits reads (suc made) old new now is_asked =
    (mid : O) × ((last : ℕ) × ((asked : Bool) × ((ended : Waited)
    × (AreTurnsOf turns waits reads made old mid last asked
    × (TurnsAndWaits turns waits reads last asked mid new now ended
    × ((was_set ended ≡ false) × (is_asked ≡ was_asked ended)))))))

-- why they end: the clock can't be read, else the flag ended a wait, else 2^64 - 1 were made
abbrev pub EndsTurns : {O : Type 0} → Turning O → (ℕ → Waited → Type 0) → (Option ℕ → Type 0) → ℕ
    → O → O → ℕ → Bool → Type 0
EndsTurns turns waits reads made mid new last is_asked =
    ((new ≡ mid) × reads None)
    ⊎ (((now : ℕ) × TurnsAndWaits turns waits reads last is_asked mid new now waited.Set)
    ⊎ ((new ≡ mid) × (made ≡ 2 ^ 64 - 1)))

-- # turns of a run (profile) [MakesTurnsBy, AreTurnsOf, TurnsAndWaits, EndsTurns]
-- One turn after the other until the flag is set, by what is waited for and what the clock tells.
pub record MakesTurnsBy {O : Type 0} (turns : Turning O) (waits : ℕ → Waited → Type 0)
    (reads : Option ℕ → Type 0) (old new : O) : Type 0 where
  pub made : ℕ
  pub mid : O
  pub last : ℕ
  pub is_asked : Bool
  pub each : AreTurnsOf turns waits reads made old mid last is_asked
  pub end : EndsTurns turns waits reads made mid new last is_asked

-- the same, of a flag and a clock of which nothing is known
abbrev pub MakesTurnsOf : {O : Type 0} → Turning O → O → O → Type 0
MakesTurnsOf turns = MakesTurnsBy turns (λ _ _. Unit {0}) (λ _. Unit {0})
