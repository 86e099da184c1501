-- the first events, and the others
use Rattle.std.proofs.Common.{sym, ap, ◌∙◌}
use Rattle.metric_script.proofs.PlaceLaws.{none_taken, parts_are_all, rest_is_read}
use Rattle.metric_script.proofs.events.EventLines.split.Goals as goal

pub returns-clause-some : goal.returns-clause-some
returns-clause-some c = λ none.
    sym c.self.view_is ∙ none_taken c.in_ok-events.events c.in_ok-events.lines.now _ c.in_ok-events.ensures.all c.self.invariant c.in_ok-events.ensures.some none
