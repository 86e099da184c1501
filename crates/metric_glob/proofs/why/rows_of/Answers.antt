use Rattle.metric_glob.proofs.ReachLemmas.{rows_start, rows_rising, rows_next}
use Rattle.metric_glob.proofs.why.rows_of.Goals as goal

pub loop-at-init : goal.loop-at-init
loop-at-init c =
    rows_start c.args.pattern.now c.args.text.now c.in_ok-row_after.field-0 c.new-rows.result c.push.new.self c.new-rows.ensures c.in_ok-row_after.ensures c.in_ok-push.ensures.ok

pub row_after-requires-in-loop-at-clause-rising : goal.row_after-requires-in-loop-at-clause-rising
row_after-requires-in-loop-at-clause-rising c =
    rows_rising c.args.pattern.now c.args.text.now c.row_of-before.result.now c.loop-at.rows c.loop-at.at c.loop-at.invariant (rw c.as_slice.ensures at c.row_of-before.ensures.row)

pub loop-at-preserved : goal.loop-at-preserved
loop-at-preserved c =
    rows_next c.args.pattern.now c.args.text.now c.row_of-before.result.now c.in_ok-row.row c.loop-at.rows c.push-in-loop-at.new.self c.loop-at.at c.loop-at.invariant
    (rw c.as_slice.ensures at c.row_of-before.ensures.row) c.in_ok-row.ensures c.in_ok-push-2.ensures.ok
