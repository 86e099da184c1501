-- an event after the other
use Rattle.std.proofs.Common.{List, ℕ, ap, sym, ◌∙◌}
use Rattle.std.specs.Borrow.{Bor}
use Rattle.metric_history.specs.declared.event.Event.{Event}
use Rattle.metric_parts.specs.Reading.{texts}
use Rattle.metric_script.specs.Events.{after_events, events_in}
use Rattle.metric_script.proofs.PlaceLaws.{events_more, events_passed}
use Rattle.metric_script.proofs.reading.taken.Goals as goal
use Rattle.metric_script.proofs.reading.taken.Goals.{then-not-is_passed_over+in_ok-event+in_ok-push+else-is_last, else-not-is_passed_over}

pub returns-then-is_last-clause-all : goal.returns-then-is_last-clause-all
returns-then-is_last-clause-all c =
    ap (λ (rest : List (Bor (List ℕ))). after_events c.push.new.self (events_in (texts rest))) c.lines_from.ensures
    ∙ events_more c.args.lines.now c.loop-place.place _ c.loop-place.events c.push.new.self c.in_ok-event.event _ c.loop-place-test.true
    (sym c.if-not-is_passed_over.ensures) c.in_ok-event.ensures c.in_ok-push.ensures.ok c.loop-place.invariant

pub loop-place-preserved : goal.loop-place-preserved
loop-place-preserved c =
    elim c.if-not-is_passed_over.branch [
      | then-not-is_passed_over+in_ok-event+in_ok-push+else-is_last w ↦
          events_more c.args.lines.now c.loop-place.place _ c.loop-place.events c.if-not-is_passed_over.events w.in_ok-event.event _ c.loop-place-test.true
          (sym w.if-not-is_passed_over.ensures) w.in_ok-event.ensures (w.events-is ∙ w.in_ok-push.ensures.ok) c.loop-place.invariant
      | else-not-is_passed_over w ↦
          events_passed c.args.lines.now c.loop-place.place _ c.loop-place.events c.if-not-is_passed_over.events _ c.loop-place-test.true
          (sym w.if-not-is_passed_over.ensures) w.events-is c.loop-place.invariant
    ]
