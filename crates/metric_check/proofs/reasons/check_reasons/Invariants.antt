-- the reasons so far have no fault
use Rattle.metric_cert.specs.Valid.{all_pairs}
use Rattle.metric_plan.specs.declared.fault.CheckFault.TheVariants.{PairMissing}
use Rattle.metric_check.specs.Findings.{ReasonFinds, of_reason}
use Rattle.metric_check.proofs.Walks.{Onward}
use Rattle.metric_check.proofs.reasons.check_reasons.Given as goal

abbrev pub invariant-loop-place : goal.invariant-loop-place
invariant-loop-place l = Onward of_reason (ReasonFinds l.catalogue l.config) PairMissing PairMissing (all_pairs l.catalogue l.config) l.reasons l.place
