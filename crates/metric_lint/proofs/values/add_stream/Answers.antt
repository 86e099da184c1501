-- one after the other
use Rattle.std.proofs.Common.{Bool, ◌++◌, ap, ◌∙◌}
use Rattle.metric_lint.specs.declared.remark.Remark.TheVariants.{OneBucket, FarBoundaries}
use Rattle.metric_lint.specs.When.{when}
use Rattle.metric_lint.proofs.Told.{on_ok, two}
use Rattle.metric_lint.proofs.values.add_stream.Goals as goal

pub returns : goal.returns
returns c =
    on_ok c.add_when-2.result _ _
    (λ added. two c.args.remarks.now _ _ _ _
    (c.in_ok-add_when.ensures ∙ ap (λ (b : Bool). c.args.remarks.now ++ when b (OneBucket c.args.number)) c.tells_nothing-is_one.ensures)
    (added ∙ ap (λ (b : Bool). c.add_when.new.remarks ++ when b (FarBoundaries c.args.number)) c.has_far-is_far.ensures))
    c.add_when-2.ensures
