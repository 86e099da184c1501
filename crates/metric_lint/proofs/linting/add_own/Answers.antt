-- one after the other
use Rattle.std.proofs.Common.{Bool, ◌++◌, ap, ◌∙◌}
use Rattle.metric_lint.specs.declared.remark.Remark.TheVariants.{Unrecorded}
use Rattle.metric_lint.specs.When.{when}
use Rattle.metric_lint.proofs.Told.{on_ok, three}
use Rattle.metric_lint.proofs.linting.add_own.Goals as goal

pub returns : goal.returns
returns c =
    on_ok c.add_unused.result _ _
    (λ added. three c.args.remarks.now _ _ _ _ _ _ (c.in_ok-add_when.ensures ∙ ap (λ (b : Bool). c.args.remarks.now ++ when b (Unrecorded c.args.number)) c.is_unrecorded-is_unrecorded.ensures) c.in_ok-add_values.ensures added)
    c.add_unused.ensures
