-- the lines before are passed over or spell events
use Rattle.metric_parts.specs.Reading.{texts}
use Rattle.metric_script.specs.Events.{events_in}
use Rattle.metric_script.proofs.PlaceLaws.{SomeBefore}
use Rattle.metric_script.proofs.reading.events.Given as goal

abbrev pub invariant-loop-place : goal.invariant-loop-place
invariant-loop-place l = SomeBefore l.fn.lines l.place (events_in (texts l.fn.lines))
