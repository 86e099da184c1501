-- slices are equal where they have the same sets
use Rattle.std.proofs.Common.{◌≡◌, Bool, Some, ap, sym, subst, ◌∙◌}
use Rattle.metric_check.proofs.Bounded.{same_list}
use Rattle.metric_check.proofs.limits.is_made_list.Goals as goal

pub returns-in-Some : goal.returns-in-Some
returns-in-Some c =
    same_list _ c.as_slice.result.now c.args.list.now c.eq.result (sym c.in_ok-own.ensures ∙ c.in-Some.is ∙ ap (λ list. Some list) (sym c.as_slice.ensures)) c.eq.ensures
