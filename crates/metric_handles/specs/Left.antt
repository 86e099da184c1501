-- What is left of a declared budget.
use Rattle.std.specs.Prelude.{ℕ, ◌-◌, Option, slice_get}
use Rattle.std.specs.Option.{option_map}
use Rattle.metric_contents.specs.Budgets.{budget_at}
use Rattle.metric_plan.specs.Plans.{PlanValue}
use Rattle.metric_seat.specs.Seats.{RecorderValue}
use Rattle.metric_slot.specs.declared.told.Told.{Told}

-- # left of a budget (profile)
-- The declared budget less what the seat was told of.
abbrev pub left_of : PlanValue → RecorderValue → ℕ → Option ℕ
left_of plan seat instrument =
    option_map
    (λ (told : Told). budget_at plan.facts.contents.recorders seat.number instrument - told.count)
    (slice_get seat.told instrument)
