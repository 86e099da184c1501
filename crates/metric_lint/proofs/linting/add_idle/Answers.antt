-- one recorder more
use Rattle.std.proofs.Common.{Bool, ◌++◌, List, take_all, ap, ◌∙◌, arith}
use Rattle.std.specs.List.{enumerate_from, flat_map}
use Rattle.metric_contents.specs.declared.contents.Recorder.{Recorder}
use Rattle.metric_lint.specs.declared.remark.Remark.TheVariants.{NoBudget}
use Rattle.metric_lint.specs.Remarks.{recorder_remark}
use Rattle.metric_lint.specs.When.{when}
use Rattle.metric_lint.proofs.Lists.{numbered_turn}
use Rattle.metric_lint.proofs.linting.add_idle.Goals as goal

pub loop-number-preserved : goal.loop-number-preserved
loop-number-preserved c =
    let n = c.loop-number.number in
    let before = c.loop-number.remarks in
    numbered_turn recorder_remark c.args.recorders.now n c.index-recorders-number.result c.args.remarks.now before c.add_when.new.remarks (omega arith) c.index-recorders-number.is
    c.loop-number.invariant
    (c.in_ok-add_when.ensures ∙ ap (λ (b : Bool). before ++ when b (NoBudget n)) c.is_idle.ensures)

pub returns : goal.returns
returns c =
    let recorders = c.args.recorders.now in
    c.loop-number.invariant
    ∙ ap (λ (rs : List Recorder). c.args.remarks.now ++ flat_map recorder_remark (enumerate_from 0 rs)) (take_all c.loop-number.number recorders (omega arith))
