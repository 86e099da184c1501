-- How a provider goes over into the next run of its plan.
use Rattle.std.specs.Prelude.{◌≡◌, ◌<◌, ◌≤◌, ℕ, Bool, true, false, List, Result, fold, length, map}
use Rattle.std.specs.Prelude.{max}
use Rattle.std.specs.List.{AllZip, range_with_len}
use Rattle.metric_history.specs.Journals.{Standing}
use Rattle.metric_core.specs.Cells.{CellKept, CellValue, latest}
use Rattle.metric_plan.specs.Plans.{PlanValue}
use Rattle.metric_seat.specs.declared.fault.FinishFault.{FinishFault}
use Rattle.metric_provider.specs.declared.fault.RollFault.{RollFault}
use Rattle.metric_provider.specs.declared.fault.RollFault.TheVariants.{SameRun, Early}
use Rattle.metric_provider.specs.declared.fault.RollFault.TheVariants.{Finish}
use Rattle.metric_provider.specs.Locked.{AreLanes, AreLocked}
use Rattle.metric_seat.specs.declared.run_id.RunId.{RunId}
use Rattle.metric_seat.specs.Seats.{CollectorValue, RecorderValue, new_collector, new_recorder}
use Rattle.metric_provider.specs.Totals.{RefusesFinish}

-- # new seats of a run (profile) [new_recorders, new_collectors]
-- One for each recorder, told of nothing, or for each reader, which has seen nothing of the run, in
-- order.
abbrev pub new_recorders : Bool → RunId → PlanValue → List RecorderValue
new_recorders keeps run plan =
    map (new_recorder keeps run (length plan.facts.instruments))
    (range_with_len 0 (length plan.facts.contents.recorders))

-- those of all its readers, which have seen nothing of the run, which started then
abbrev pub new_collectors : RunId → PlanValue → List CollectorValue
new_collectors run plan =
    map (new_collector run (length plan.facts.instruments))
    (range_with_len 0 (length plan.config.readers))

-- the greatest time of a last batch of the readers of these lanes; the start of the run before one,
-- 0 without lanes
abbrev pub latest_of : {B : Type 0} → List (CellValue B) → ℕ
latest_of cells = fold max 0 (map latest cells)

-- the same of instruments with several lanes
abbrev pub latest_of_all : {B : Type 0} → List (List (CellValue B)) → ℕ
latest_of_all lanes = fold max 0 (map latest_of lanes)

-- The time is that of so many instruments behind their locks.
pub record IsLatest {B : Type 0} (standing : B → Standing) (locks time : ℕ) : Type 0 where
  pub lanes : List (List (CellValue B))
  pub locked : AreLocked standing locks lanes
  pub is : time ≡ latest_of_all lanes

-- The time is that of one lane behind its lock.
pub record IsTimeOfLane {B : Type 0} (standing : B → Standing) (time : ℕ) : Type 0 where
  pub cell : CellValue B
  pub kept : CellKept standing cell
  pub is : time ≡ latest cell

-- The time is that of the lanes of one instrument behind their locks.
pub record IsTimeBehind {B : Type 0} (standing : B → Standing) (time : ℕ) : Type 0 where
  pub cells : List (CellValue B)
  pub kept : AreLanes standing cells
  pub is : time ≡ latest_of cells

-- Each of these told a time, in their order, and this is the greatest of them, 0 without any.
pub record TellsLatest {T : Type 0} (tells : T → ℕ → Type 0) (all : List T) (time : ℕ) : Type 0 where
  pub times : List ℕ
  pub each : AllZip tells all times
  pub is : time ≡ fold max 0 times

-- # in time (profile) [IsInTime, IsLatest, TellsLatest, latest_of]
-- The greatest of the latest times of the instruments behind the locks is no later than the start.
pub record IsInTime {B : Type 0} (standing : B → Standing) (locks start : ℕ) : Type 0 where
  pub time : ℕ
  pub told : IsLatest standing locks time
  pub after : time ≤ start

-- What refuses to begin the next run, by whether it has the number of this one: that it has, else
-- that it starts before the last batch of this one, with the time of that.
abbrev pub RefusesNext : {B : Type 0} → (B → Standing) → ℕ → Bool → ℕ → RollFault → Type 0
RefusesNext standing locks true start SameRun = Unit {0}
RefusesNext standing locks false start (Early time) = IsLatest standing locks time × (start < time)
RefusesNext standing locks same start fault = ⊥

-- # what refuses to go over (profile) [RefusesRoll, RefusesNext]
-- That the next run has the number of this one, else that it starts before the last batch of this
-- one, with the time of that, else what refuses to finish.
abbrev pub RefusesRoll : {B : Type 0} → (B → Standing) → ℕ → Bool → ℕ
    → Result (Unit {0}) FinishFault → RollFault → Type 0
RefusesRoll standing locks false start ended (Finish fault) =
    IsInTime standing locks start × RefusesFinish ended fault
RefusesRoll standing locks same start ended fault = RefusesNext standing locks same start fault
