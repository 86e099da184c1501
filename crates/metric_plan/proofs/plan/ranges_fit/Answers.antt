use Rattle.std.proofs.Common.{arith}
use Rattle.metric_plan.proofs.PlanLaws.{all_ranges, ranges_more}
use Rattle.metric_plan.proofs.plan.ranges_fit.Goals as goal

pub loop-own-preserved : goal.loop-own-preserved
loop-own-preserved c =
    ranges_more _ _ c.own-item.result c.loop-own.invariant c.own-item.is (c.range_fits.ensures.low, c.range_fits.ensures.high)

pub returns : goal.returns
returns c = all_ranges _ _ (omega arith) c.loop-own.invariant
