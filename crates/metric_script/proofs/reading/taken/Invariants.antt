-- the events so far and those that are left are all
use Rattle.std.proofs.Common.{◌≡◌, drop}
use Rattle.metric_parts.specs.Reading.{texts}
use Rattle.metric_script.specs.Events.{after_events, events_in}
use Rattle.metric_script.proofs.reading.taken.Given as goal

abbrev pub invariant-loop-place : goal.invariant-loop-place
invariant-loop-place l = after_events l.events (events_in (texts (drop l.place l.lines))) ≡ events_in (texts l.fn.lines)
