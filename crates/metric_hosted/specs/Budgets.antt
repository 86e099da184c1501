-- What is left for recorders of an instrument that a host holds.
use Rattle.std.specs.Prelude.{◌≡◌, ◌+◌, ◌-◌, ◌^◌, ℕ, min, Result, Ok, Err, slice_index}
use Rattle.metric_contents.specs.declared.refusal.Refusal.{Refusal}
use Rattle.metric_contents.specs.declared.refusal.Refusal.TheVariants.{Stranger}
use Rattle.metric_plan.specs.Plans.{PlanValue}
use Rattle.metric_seat.specs.Seats.{RecorderValue}
use Rattle.metric_hosted.specs.Grants.{AnswersGranting}
use Rattle.metric_hosted.specs.Hosts.{HostedValue}
use Rattle.metric_hosted.specs.Settlements.{IsSeatOf}
use Rattle.metric_hosted.specs.declared.budget.Budget.{Budget}
use Rattle.metric_hosted.specs.declared.budget.Spare.{Spare}

-- # what a recorder has left (profile) [budget_at, spare_of, TellsBudget, AnswersAsking]
-- How many recordings it may make on an instrument by its budget and its grants, how many it has
-- made, and how many are left; what an instrument has to spare.
abbrev pub budget_at : HostedValue → ℕ → Budget
budget_at h recorder =
    let declared = slice_index h.cell.facts.budgets recorder in
    let granted = slice_index h.cell.granted recorder in
    let spent = slice_index h.cell.spent recorder in
    record {
      declared = declared;
      granted = granted;
      spent = spent;
      left = min (declared + granted) (2 ^ 64 - 1) - spent;
    }

-- the recordings that may be granted beside the budgets
abbrev pub spare_of : HostedValue → Spare
spare_of h = record {
  declared = h.cell.facts.spare;
  granted = h.cell.facts.spare - h.cell.spare;
  left = h.cell.spare;
}

-- what a seat with a plan is told of its budget; a stranger to the instrument is refused
abbrev pub TellsBudget : PlanValue → HostedValue → RecorderValue → Result Budget Refusal → Type 0
TellsBudget plan h seat (Ok budget) = IsSeatOf plan h seat × (budget ≡ budget_at h seat.number)
TellsBudget plan h seat (Err refusal) = (refusal ≡ Stranger) × (IsSeatOf plan h seat → ⊥)

-- what a seat with a plan that asks for recordings is answered: `Stranger` exactly where it is a
-- stranger to the instrument, else what a grant to its recorder is
abbrev pub AnswersAsking : PlanValue → HostedValue → RecorderValue → ℕ
    → Result (Unit {0}) Refusal → Type 0
AnswersAsking plan h seat amount (Err Stranger) = IsSeatOf plan h seat → ⊥
AnswersAsking plan h seat amount result =
    IsSeatOf plan h seat × AnswersGranting h seat.number amount result
