-- the lines after the start of a script
use Rattle.std.proofs.Common.{◌≡◌, ℕ, List, Ok, Err, ap, refl, sym, ◌∙◌}
use Rattle.metric_parts.specs.Reading.{texts}
use Rattle.metric_script.specs.Events.{events_in}
use Rattle.metric_script.specs.Stops.{begun_in, script_events}
use Rattle.metric_script.proofs.OneScript.{rest_has_events, rest_is_events, some_is_begun}
use Rattle.metric_script.proofs.events.EventLines.of_script.Goals as goal

pub of-requires : goal.of-requires
of-requires c =
    rest_is_events c.args.script.now.lines (texts c.in-Ok.lines.now) c.in-Ok.field-0-0 c.requires
    (ap begun_in (sym c.lines.ensures.lines) ∙ sym c.in-Ok.ensures)

pub of-requires-in-Err : goal.of-requires-in-Err
unfolding events_in
of-requires-in-Err c = refl

pub returns-in-Ok : goal.returns-in-Ok
returns-in-Ok c =
    c.of.ensures
    ∙ rest_has_events c.args.script.now.lines (texts c.in-Ok.lines.now) c.in-Ok.field-0-0 (ap begun_in (sym c.lines.ensures.lines) ∙ sym c.in-Ok.ensures)

pub returns-in-Err : goal.returns-in-Err
returns-in-Err c =
    absurd (some_is_begun c.args.script.now.lines (texts c.in-Err.field-0.now) c.requires (ap begun_in (sym c.lines.ensures.lines) ∙ sym c.in-Err.ensures))
