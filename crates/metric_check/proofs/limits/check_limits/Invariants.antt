-- the entries so far have no fault, so their lists are those of their streams
use Rattle.metric_plan.specs.declared.fault.CheckFault.TheVariants.{BadSets}
use Rattle.metric_check.specs.Findings.{LimitFinds, of_stream}
use Rattle.metric_check.specs.Known.{AreListed}
use Rattle.metric_check.proofs.Walks.{Onward}
use Rattle.metric_check.proofs.limits.check_limits.Given as goal

abbrev pub invariant-loop-number : goal.invariant-loop-number
invariant-loop-number l = record {
  onward : Onward of_stream (LimitFinds l.catalogue) BadSets BadSets l.streams l.entries l.number;
  listed : AreListed l.catalogue l.streams l.entries l.number;
}
