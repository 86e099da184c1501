-- the flags are the stream's
use Rattle.std.proofs.Common.{sym, subst}
use Rattle.metric_dense.specs.Ranks.{IsRanked}
use Rattle.metric_dense.proofs.table.dense_table.Goals as goal

pub new-requires : goal.new-requires
new-requires c = subst (λ kept. IsRanked kept c.args.keys.now) (sym c.in_ok-kept.ensures) c.are_ranked.ensures

pub new-requires-in-LastValue : goal.new-requires-in-LastValue
new-requires-in-LastValue c = subst (λ kept. IsRanked kept c.args.keys.now) (sym c.in_ok-kept.ensures) c.are_ranked.ensures

pub new-requires-in-Histogram : goal.new-requires-in-Histogram
new-requires-in-Histogram c = subst (λ kept. IsRanked kept c.args.keys.now) (sym c.in_ok-kept.ensures) c.are_ranked.ensures
