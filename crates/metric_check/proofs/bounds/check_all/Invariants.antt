-- the bounds so far have no fault
use Rattle.metric_resolve.specs.Applying.{all_instruments}
use Rattle.metric_plan.specs.declared.fault.CheckFault.TheVariants.{CountRange}
use Rattle.metric_check.specs.Findings.{BoundFinds, of_bound}
use Rattle.metric_check.proofs.Walks.{Onward}
use Rattle.metric_check.proofs.bounds.check_all.Given as goal

abbrev pub invariant-loop-number : goal.invariant-loop-number
invariant-loop-number l =
    Onward of_bound (BoundFinds l.catalogue l.streams) CountRange CountRange (all_instruments l.catalogue) l.bounds l.number
