-- the longest list of the events so far
use Rattle.std.proofs.Common.{ℕ, ◌<◌, ◌≤◌, get_or}
use Rattle.metric_history.specs.declared.event.Event.{Event}
use Rattle.metric_history.specs.Events.{attr_count}
use Rattle.metric_core.proofs.run.longest.Given as goal

abbrev pub invariant-loop-event : goal.invariant-loop-event
invariant-loop-event l = (k : ℕ) (d : Event) → k < l.event-index → attr_count (get_or l.events k d) ≤ l.most
