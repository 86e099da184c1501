-- one after the other
use Rattle.std.proofs.Common.{Bool, ◌++◌, ap, ◌∙◌}
use Rattle.metric_lint.specs.declared.remark.Remark.TheVariants.{NothingAllowed, OneValue}
use Rattle.metric_lint.specs.When.{when}
use Rattle.metric_lint.proofs.Told.{on_ok, two}
use Rattle.metric_lint.proofs.values.add_values.Goals as goal

pub returns : goal.returns
returns c =
    on_ok c.add_when-2.result _ _
    (λ added. two c.args.remarks.now _ _ _ _
    (c.in_ok-add_when.ensures ∙ ap (λ (b : Bool). c.args.remarks.now ++ when b (NothingAllowed c.args.number)) c.allows_nothing-allows_nothing.ensures)
    (added ∙ ap (λ (b : Bool). c.add_when.new.remarks ++ when b (OneValue c.args.number)) c.has_one_value-has_one.ensures))
    c.add_when-2.ensures
