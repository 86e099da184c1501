-- the budgets so far and the spare budget
use Rattle.std.proofs.Common.{◌+◌, List, take_all, ap, ◌∙◌, arith}
use Rattle.std.specs.Prelude.{sum_by}
use Rattle.metric_contents.specs.declared.contents.Recorder.{Recorder}
use Rattle.metric_contents.specs.Budgets.{amount_of, spare_at}
use Rattle.metric_bounds.specs.Amounts.{total_of}
use Rattle.metric_bounds.proofs.amounts.total.Goals as goal

pub loop-recorder-init : goal.loop-recorder-init
loop-recorder-init c = record {
  done = let spare = c.from-total.ensures ∙ c.spare.ensures in omega arith;
  bounded = omega arith;
}

pub returns : goal.returns
unfolding total_of
returns c =
    let contents = c.args.catalogue.now in
    let number = c.args.instrument in
    let items = c.recorders-recorder-items.result.now in
    c.loop-recorder.invariant.done
    ∙ ap (λ (rs : List Recorder). sum_by (λ recorder. amount_of recorder number) rs + spare_at contents.instruments number)
    (take_all c.loop-recorder.recorder-index items (omega arith) ∙ c.recorders-recorder-items.ensures.recorders)
