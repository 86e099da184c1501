use Rattle.std.proofs.Common.{sym, ◌∙◌, ◌≤◌, length, arith, below_more}
use Rattle.std.proofs.lemmas.Bool.{false≢true}
use Rattle.metric_glob.proofs.RowLemmas.{stays_from, stays_to}
use Rattle.metric_glob.proofs.confirming.are_closed.Goals as goal

pub returns-then-not-row_stays : goal.returns-then-not-row_stays
returns-then-not-row_stays c = (
  λ never. absurd (false≢true never),
  λ closed.
      let within : c.loop-at.at ≤ length c.args.text.now = omega arith in
      sym c.if-not-row_stays.true
      ∙ (c.row_stays.ensures).1 (stays_from c.args.pattern.now c.args.text.now c.args.rows.now c.loop-at.at _ _ _ c.found_at-found.ensures c.row_of.ensures.row c.row_of-in-loop-at.ensures.row (closed c.loop-at.at within)),
)

pub loop-at-preserved : goal.loop-at-preserved
loop-at-preserved c =
    below_more _ _ c.loop-at.invariant
    (stays_to c.args.pattern.now c.args.text.now c.args.rows.now c.loop-at.at _ _ _ c.found_at-found.ensures c.row_of.ensures.row c.row_of-in-loop-at.ensures.row
    ((c.row_stays.ensures).0 c.if-not-row_stays.false))
