-- One instrument as a host holds it.
use Rattle.std.specs.Prelude.{ℕ}
use Rattle.metric_core.specs.Cells.{CellValue}
use Rattle.metric_marked.specs.Marks.{MarkedValue}
use Rattle.metric_plan.specs.Plans.{PlanValue}
use Rattle.metric_seat.specs.Seats.{ProviderValue, provider_of}
use Rattle.metric_seat.specs.declared.run_id.RunId.{RunId}

-- # hosted instrument (profile) [HostedValue, run_of]
-- The state of an instrument and its run; what a seat with a plan takes that run for.
pub record HostedValue : Type 0 where
  pub run : RunId
  pub cell : CellValue MarkedValue

-- the number of the instrument
abbrev pub number_of : HostedValue → ℕ
number_of h = h.cell.facts.instrument

-- what a seat with a plan takes the instrument's run for
abbrev pub run_of : PlanValue → HostedValue → ProviderValue
run_of plan h = provider_of plan h.run
