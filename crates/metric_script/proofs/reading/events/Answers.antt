-- one line after the other
use Rattle.std.proofs.Common.{List, IsOk, Ok, ap, refl, subst, sym, ◌∙◌}
use Rattle.metric_history.specs.declared.event.Event.{Event}
use Rattle.metric_script.specs.Events.{read_events}
use Rattle.metric_script.proofs.PlaceLaws.{bad_line, events_end, none_before, one_line_more, stop_told}
use Rattle.metric_script.proofs.reading.events.Goals as goal

pub loop-place-init : goal.loop-place-init
loop-place-init c = none_before c.args.lines.now

pub loop-place-preserved : goal.loop-place-preserved
loop-place-preserved c =
    one_line_more c.args.lines.now c.loop-place.place _ _ c.loop-place-test.true c.in_default.ensures.ok c.loop-place.invariant

pub returns-in-Err : goal.returns-in-Err
returns-in-Err c =
    stop_told (λ (events : List Event). events) c.in-Err.fault c.at.result c.lines_from.result _ c.at.ensures (λ bad.
    bad_line c.args.lines.now c.lines_from.result.now c.loop-place.place _ _ c.loop-place-test.true (c.in-Err.ensures.bad bad) c.lines_from.ensures c.loop-place.invariant)

pub of-requires : goal.of-requires
of-requires c =
    subst IsOk (sym (events_end c.args.lines.now c.loop-place.place c.loop-place.invariant.before _ c.loop-place-test.false c.loop-place.invariant.so_far)) refl

pub returns : goal.returns
returns c =
    let all = events_end c.args.lines.now c.loop-place.place c.loop-place.invariant.before _ c.loop-place-test.false c.loop-place.invariant.so_far in
    all ∙ ap (λ (events : List Event). Ok events) (sym (c.of.ensures ∙ ap read_events all))
