-- What opening leaves in the handles of a host.
use Rattle.std.specs.Prelude.{◌≡◌, ◌≢◌, ◌⊎◌, ℕ, Bool, false, ◌||◌, List, [], Option, Some, None}
use Rattle.std.specs.Prelude.{length, map, nat_lt, slice_get}
use Rattle.std.specs.List.{list_any, range_with_len}
use Rattle.std.specs.Option.{is_some}
use Rattle.metric_core.specs.Cells.{CellStands, new_cell}
use Rattle.metric_marked.specs.Marks.{StandsMarked}
use Rattle.metric_plan.specs.Plans.{PlanValue}
use Rattle.metric_seat.specs.Seats.{new_collector, new_recorder, run_of}
use Rattle.metric_seat.specs.declared.run_id.RunId.{RunId}
use Rattle.metric_setup.specs.Setups.{IsFirstFault}
use Rattle.metric_setup.specs.declared.fault.SetupFault.{SetupFault}
use Rattle.metric_setup.specs.declared.fault.SetupFault.TheVariants.{Memory}
use Rattle.metric_hosted.specs.Hosts.{HostedValue}
use Rattle.wormweekly_c.specs.Texts.{AreFirst}
use Rattle.wormweekly_c.specs.Telling.{TellsFault}
use Rattle.wormweekly_c.specs.declared.opening.Counts.{Counts}
use Rattle.wormweekly_c.specs.declared.handles.Handle.{Handle}
use Rattle.wormweekly_c.specs.declared.held.Held.{Held}
use Rattle.wormweekly_c.specs.declared.held.Held.TheVariants.{Instrument, Recorder, Reader}

-- what handles hold
abbrev pub held_in : List Handle → List (Option Held)
held_in handles = map (λ (handle : Handle). handle.value) handles

-- how many of each a plan declares
abbrev pub counts_of : PlanValue → Counts
counts_of plan = record {
  instruments = length plan.facts.contents.instruments;
  recorders = length plan.facts.contents.recorders;
  readers = length plan.config.readers;
}

-- whether there are fewer handles of some kind than there are to be
abbrev pub lacks_handles : Counts → ℕ → ℕ → ℕ → Bool
lacks_handles counts instruments recorders readers =
    (nat_lt instruments counts.instruments || nat_lt recorders counts.recorders)
    || nat_lt readers counts.readers

-- a plan is opened, or there are too few handles, or memory ran out
abbrev pub IsOpenCode : ℕ → Type 0
IsOpenCode code = (code ≡ 0) ⊎ ((code ≡ 102) ⊎ (code ≡ 11))

-- The instrument of this number, without recordings since a start, in a run.
pub record IsNewInstrument (plan : PlanValue) (start run number : ℕ) (h : HostedValue)
    : Type 0 where
  pub own_run : h.run ≡ run_of plan run start
  pub facts : slice_get plan.facts.instruments number ≡ Some h.cell.facts
  pub new : h.cell ≡ new_cell h.cell.facts start h.cell.book
  pub stands : CellStands StandsMarked h.cell []

abbrev pub HoldsNew : PlanValue → ℕ → ℕ → ℕ → Option Held → Type 0
HoldsNew plan start run number (Some (Instrument h)) = IsNewInstrument plan start run number h
HoldsNew plan start run number other = ⊥

-- One of each that the plan declares, in order.
pub record AreNewInstruments (plan : PlanValue) (start run : ℕ) (all : List (Option Held))
    : Type 0 where
  pub count : length all ≡ length plan.facts.contents.instruments
  pub each : (number : ℕ) (one : Option Held) → slice_get all number ≡ Some one
      → HoldsNew plan start run number one

-- the seat of a recorder that was told of nothing
abbrev pub new_recorder_of : PlanValue → RunId → ℕ → Option Held
new_recorder_of plan run number =
    Some (Recorder (record {
      plan = plan;
      seat = new_recorder false run (length plan.facts.instruments) number;
    }))

-- one of each that the plan declares, in order
abbrev pub new_recorders : PlanValue → RunId → List (Option Held)
new_recorders plan run =
    map (new_recorder_of plan run) (range_with_len 0 (length plan.facts.contents.recorders))

-- the seat of a reader that has seen nothing of a run
abbrev pub new_reader_of : PlanValue → RunId → ℕ → Option Held
new_reader_of plan run number =
    Some (Reader (record {
      plan = plan;
      seat = new_collector run (length plan.facts.instruments) number;
      kept = [];
    }))

abbrev pub new_readers : PlanValue → RunId → List (Option Held)
new_readers plan run =
    map (new_reader_of plan run) (range_with_len 0 (length plan.config.readers))

-- What the handles of a host hold.
pub record AllHeld : Type 0 where
  pub instruments : List (Option Held)
  pub recorders : List (Option Held)
  pub readers : List (Option Held)

abbrev pub held_by : List Handle → List Handle → List Handle → AllHeld
held_by instruments recorders readers = record {
  instruments = held_in instruments;
  recorders = held_in recorders;
  readers = held_in readers;
}

-- whether some handle holds something
abbrev pub holds_something : AllHeld → Bool
holds_something all =
    list_any is_some all.instruments
    || (list_any is_some all.recorders || list_any is_some all.readers)

-- A run of a plan begins.
pub record Begins (plan : PlanValue) (start run : ℕ) (before after : AllHeld) : Type 0 where
  pub made : List (Option Held)
  pub new : AreNewInstruments plan start run made
  pub instruments : AreFirst made before.instruments after.instruments
  pub recorders : AreFirst (new_recorders plan (run_of plan run start)) before.recorders after.recorders
  pub readers : AreFirst (new_readers plan (run_of plan run start)) before.readers after.readers

-- A run of the plan begins, and this is how many of each it has.
pub record BeginsOf (plan : PlanValue) (start run : ℕ) (counts : Counts) (before after : AllHeld)
    : Type 0 where
  pub counts_are : counts ≡ counts_of plan
  pub begins : Begins plan start run before after

-- what the next run of a plan is answered: as an opening, or that the plan is not certified
abbrev pub IsNextCode : PlanValue → ℕ → Type 0
IsNextCode plan code = IsOpenCode code ⊎ ((code ≡ 103) × (plan.is_certified ≡ false))

-- # opened (profile) [Opens, Begins]
-- A plan of the texts; the first handles hold a new instrument, recorder, reader for each that it
-- declares, those after them what they held.
pub record Opens (IsPlan : PlanValue → Type 0) (start run : ℕ) (counts : Counts)
    (before after : AllHeld) : Type 0 where
  pub plan : PlanValue
  pub is : IsPlan plan
  pub counts_are : counts ≡ counts_of plan
  pub begins : Begins plan start run before after

-- There is such a plan, and this is how many of each it has.
pub record Counted (IsPlan : PlanValue → Type 0) (counts : Counts) : Type 0 where
  pub plan : PlanValue
  pub is : IsPlan plan
  pub counts_are : counts ≡ counts_of plan

-- Two texts have a first fault, which a text tells.
pub record HasFault (catalogue config text : List ℕ) : Type 0 where
  pub fault : SetupFault
  pub known : fault ≢ Memory
  pub first : IsFirstFault fault catalogue config
  pub tells : TellsFault catalogue config fault text
