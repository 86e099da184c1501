-- What holds of the runs of a core of a certified plan.
use Rattle.std.specs.Prelude.{ℕ, IsTrue, List}
use Rattle.metric_history.specs.declared.event.Event.{Event}
use Rattle.metric_history.specs.declared.event.Reply.{Reply}
use Rattle.metric_history.specs.History.{History}
use Rattle.metric_history.specs.Legal.{IsLegal, grown}
use Rattle.metric_plan.specs.Plans.{PlanValue}
use Rattle.metric_safety.specs.SafeRuns.{IsSafeHistory}

-- # stays safe (profile)
-- For a certified plan, a legal history with more events and their replies is safe.
abbrev pub StaysSafe : PlanValue → ℕ → History → List Event → List Reply → Type 0
StaysSafe plan start h events replies =
    IsTrue plan.is_certified → IsLegal plan.facts start h
    → IsSafeHistory plan start (grown h events replies)
