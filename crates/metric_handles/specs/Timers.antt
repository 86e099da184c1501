-- Histograms of durations.
use Rattle.std.specs.Prelude.{ℕ, ◌==◌, List, Result, Ok, slice_get}
use Rattle.metric_base.specs.Steps.{◌>>=◌, require, require_some}
use Rattle.metric_contents.specs.declared.contents.Instrument.{Instrument}
use Rattle.metric_plan.specs.Plans.{PlanValue, print_of}
use Rattle.metric_handles.specs.Bounds.{BoundValue}
use Rattle.metric_handles.specs.TimeUnits.{time_unit_of}
use Rattle.metric_handles.specs.declared.time_unit.TimeUnit.{TimeUnit}
use Rattle.metric_handles.specs.declared.timer.Timer.{Timer}
use Rattle.metric_handles.specs.declared.timer.TimerFault.{TimerFault}
use Rattle.metric_handles.specs.declared.timer.TimerFault.TheVariants.{OtherPlan, OtherUnit}

-- the instrument of a number, or that the plan has none
abbrev pub timed_at : List Instrument → ℕ → Result Instrument TimerFault
timed_at instruments number = require_some (slice_get instruments number) OtherPlan

-- the unit of time that it is declared in
abbrev pub declared_unit : List Instrument → ℕ → Result TimeUnit TimerFault
declared_unit instruments number =
    timed_at instruments number >>= λ i. require_some (time_unit_of i.unit) OtherUnit

-- # timer (profile)
-- Bound attributes of a plan whose instrument is declared in a unit of time, with that unit; else
-- the first of another plan, another unit.
abbrev pub timer_of : PlanValue → BoundValue → Result Timer TimerFault
timer_of plan bound =
    require (bound.plan == print_of plan) OtherPlan >>= λ _.
    declared_unit plan.facts.contents.instruments bound.instrument >>= λ own.
    Ok (record { took = bound; unit = own })
