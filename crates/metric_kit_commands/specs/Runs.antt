-- A run of events from a start.
use Rattle.std.specs.Prelude.{◌≡◌, ℕ, false, List, [], ◌∷◌, Result, Ok, Err}
use Rattle.std.specs.List.{list_any}
use Rattle.metric_contents.specs.declared.refusal.Refusal.{Refusal}
use Rattle.metric_facts.specs.Facts.{RunFacts}
use Rattle.metric_history.specs.History.{History, answered}
use Rattle.metric_history.specs.Legal.{AllLegal, close, collection, grant, recording}
use Rattle.metric_history.specs.declared.batch.Batch.{Batch}
use Rattle.metric_history.specs.declared.entry.Entry.{Entry}
use Rattle.metric_history.specs.declared.event.Event.{Event}
use Rattle.metric_history.specs.declared.event.Event.TheVariants.{Record, Collect, Close, Grant}
use Rattle.metric_history.specs.declared.event.Reply.{Reply}
use Rattle.metric_history.specs.declared.event.Reply.TheVariants.{Accepted, Collected, Done}
use Rattle.metric_history.specs.declared.event.Reply.TheVariants.{Granted, Refused}
use Rattle.metric_plan.specs.Plans.{PlanValue}
use Rattle.metric_kit_commands.specs.Replies.{is_want_of_memory}

-- A legal reply to each event, and none of them out of memory.
pub record IsRun (plan : PlanValue) (start : ℕ) (events : List Event) (replies : List Reply)
    : Type 0 where
  pub legal : AllLegal plan.facts start [] events replies
  pub remembered : list_any is_want_of_memory replies ≡ false

-- the reply to a recording if memory does not run out
abbrev pub record_reply : Result Entry Refusal → Reply
record_reply (Ok entry) = Accepted
record_reply (Err refusal) = Refused refusal

abbrev pub collect_reply : Result Batch Refusal → Reply
collect_reply (Ok batch) = Collected batch
collect_reply (Err refusal) = Refused refusal

abbrev pub close_reply : Result (Unit {0}) Refusal → Reply
close_reply (Ok done) = Done
close_reply (Err refusal) = Refused refusal

abbrev pub grant_reply : Result (Unit {0}) Refusal → Reply
grant_reply (Ok done) = Granted
grant_reply (Err refusal) = Refused refusal

-- the reply to an event after a history, if memory does not run out
abbrev pub due_reply : RunFacts → ℕ → History → Event → Reply
due_reply facts start h (Record recorder instrument attrs value) =
    record_reply (recording facts start h recorder instrument attrs value)
due_reply facts start h (Collect reader instrument now) =
    collect_reply (collection facts start h reader instrument now)
due_reply facts start h (Close instrument) = close_reply (close facts start h instrument)
due_reply facts start h (Grant recorder instrument amount) =
    grant_reply (grant facts start h recorder instrument amount)

-- the history after more events with these replies
unfoldable pub due_history : RunFacts → ℕ → History → List Event → History
due_history facts start h [] = h
due_history facts start h (event ∷ events) =
    due_history facts start (answered event (due_reply facts start h event) ∷ h) events

-- # due replies (profile) [due_replies, due_history]
-- The replies to events after a history if memory never runs out: each accepted, answered with its
-- batch, done or granted, or else refused as it has to be.
unfoldable pub due_replies : RunFacts → ℕ → History → List Event → List Reply
due_replies facts start h [] = []
due_replies facts start h (event ∷ events) =
    due_reply facts start h event
    ∷ due_replies facts start (answered event (due_reply facts start h event) ∷ h) events
