-- no line is left
use Rattle.std.proofs.Common.{refl, sym, ◌∙◌}
use Rattle.metric_script.proofs.PlaceLaws.{all_taken}
use Rattle.metric_script.proofs.events.EventLines.all.Goals as goal

pub returns : goal.returns
returns c =
    all_taken c.in_ok-events.events c.in_ok-events.field-0-1.now _ c.in_ok-events.ensures.all c.self.invariant (c.in_ok-events.ensures.whole refl) ∙ c.self.view_is
