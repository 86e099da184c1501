-- One instrument compared with what its recorders were told.
use Rattle.std.specs.Prelude.{◌≡◌, ℕ, Bool, true, List, Some, Result, Ok, Err, nat_lt, slice_get}
use Rattle.std.specs.List.{list_all}
use Rattle.metric_base.specs.Steps.{◌>>=◌, require}
use Rattle.metric_core.specs.Cells.{CellValue}
use Rattle.metric_marked.specs.Marks.{MarkedValue}
use Rattle.metric_plan.specs.Plans.{PlanValue}
use Rattle.metric_seat.specs.Recordings.{told_at}
use Rattle.metric_seat.specs.Seats.{RecorderValue, is_recorder_of}
use Rattle.metric_seat.specs.Settlements.{IsAsTold, are_distinct, has_each, numbers_of}
use Rattle.metric_seat.specs.Settlements.{told_total}
use Rattle.metric_seat.specs.declared.fault.FinishFault.{FinishFault}
use Rattle.metric_seat.specs.declared.fault.FinishFault.TheVariants.{RecorderMissing, Stranger}
use Rattle.metric_seat.specs.declared.fault.FinishFault.TheVariants.{AuditMismatch}
use Rattle.metric_seat.specs.declared.total.Total.{Total}
use Rattle.metric_slot.specs.declared.told.Told.{Told}
use Rattle.metric_hosted.specs.declared.settling.SeatTold.{SeatTold}
use Rattle.metric_hosted.specs.Hosts.{HostedValue, number_of, run_of}

-- A seat with a plan is of the instrument's run, and its plan has the instrument's facts.
pub record IsSeatOf (plan : PlanValue) (h : HostedValue) (seat : RecorderValue) : Type 0 where
  pub own : is_recorder_of (run_of plan h) seat ≡ true
  pub facts : slice_get plan.facts.instruments (number_of h) ≡ Some h.cell.facts

-- # what a seat tells (profile)
-- Of an instrument of its run whose facts its plan has: its number and what it was told.
abbrev pub TellsOf : PlanValue → HostedValue → RecorderValue → Result SeatTold FinishFault → Type 0
TellsOf plan h seat (Ok told) =
    IsSeatOf plan h seat
    × (told ≡ record { number = seat.number; told = told_at seat (number_of h) })
TellsOf plan h seat (Err fault) = (fault ≡ Stranger) × (IsSeatOf plan h seat → ⊥)

-- the number of a seat's recorder
abbrev pub recorder_of : SeatTold → ℕ
recorder_of seat = seat.number

-- what it was told
abbrev pub told_of : SeatTold → Told
told_of seat = seat.told

-- whether each seat is of one of so many recorders
abbrev pub are_known : List SeatTold → ℕ → Bool
are_known seats recorders = list_all (λ (seat : SeatTold). nat_lt seat.number recorders) seats

-- whether the seats are one of each of so many recorders, or the first fault
abbrev pub seated : ℕ → List SeatTold → Result (Unit {0}) FinishFault
seated recorders seats =
    require (are_known seats recorders) Stranger >>= λ _.
    require (are_distinct recorder_of seats) Stranger >>= λ _.
    require (has_each recorder_of seats recorders) RecorderMissing

-- # settled (profile) [Settles, IsAsTold, seated]
-- The seats' own fault; `AuditMismatch` exactly where spent budgets, count or sum are others; else
-- the total of what they were told.
abbrev pub Settles : CellValue MarkedValue → List SeatTold → Result (Unit {0}) FinishFault
    → Result Total FinishFault → Type 0
Settles c seats (Err first) (Ok total) = ⊥
Settles c seats (Err first) (Err fault) = fault ≡ first
Settles c seats (Ok done) (Ok total) =
    IsAsTold recorder_of told_of (numbers_of c) seats × (total ≡ told_total told_of c.facts.lo seats)
Settles c seats (Ok done) (Err fault) =
    (fault ≡ AuditMismatch) × (IsAsTold recorder_of told_of (numbers_of c) seats → ⊥)
