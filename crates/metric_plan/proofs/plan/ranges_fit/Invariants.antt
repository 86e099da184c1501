use Rattle.metric_plan.proofs.PlanLaws.{RangesFitBelow}
use Rattle.metric_plan.proofs.plan.ranges_fit.Given as goal

abbrev pub invariant-loop-own : goal.invariant-loop-own
invariant-loop-own l = RangesFitBelow l.own-index l.all
