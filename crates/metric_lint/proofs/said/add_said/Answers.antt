-- one after the other
use Rattle.std.proofs.Common.{Bool, ◌++◌, ap, ◌∙◌}
use Rattle.metric_lint.specs.declared.remark.Remark.TheVariants.{SaysNothing}
use Rattle.metric_lint.specs.When.{when}
use Rattle.metric_lint.proofs.Told.{on_ok, two}
use Rattle.metric_lint.proofs.said.add_said.Goals as goal

pub returns : goal.returns
returns c =
    on_ok c.add_both.result _ _
    (λ added. two c.args.remarks.now _ _ _ _
    (c.in_ok-add_when.ensures ∙ ap (λ (b : Bool). c.args.remarks.now ++ when b (SaysNothing c.args.number)) c.says_nothing-is_empty.ensures)
    added)
    c.add_both.ensures
