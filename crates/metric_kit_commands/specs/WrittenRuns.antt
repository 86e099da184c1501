-- The text of a run of events.
use Rattle.std.specs.Prelude.{ℕ, List}
use Rattle.metric_history.specs.History.{History}
use Rattle.metric_history.specs.declared.event.Event.{Event}
use Rattle.metric_history.specs.declared.event.Reply.{Reply}
use Rattle.metric_plan.specs.Plans.{PlanValue}
use Rattle.metric_kit_commands.specs.Replies.{formed_text}
use Rattle.metric_kit_commands.specs.Runs.{due_replies}

-- that of the replies to events after a history, in a form, if memory does not run out
abbrev pub due_text : (PlanValue → Reply → List ℕ) → PlanValue → ℕ → History → List Event → List ℕ
due_text text plan start h events =
    formed_text (text plan) (due_replies plan.facts start h events)
