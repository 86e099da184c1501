-- the entries so far have no fault
use Rattle.metric_plan.specs.declared.fault.CheckFault.TheVariants.{StreamMissing, StreamStrange}
use Rattle.metric_check.specs.Findings.{EntryFinds, of_stream}
use Rattle.metric_check.proofs.Walks.{Onward}
use Rattle.metric_check.proofs.entries.check_entries.Given as goal

abbrev pub invariant-loop-number : goal.invariant-loop-number
invariant-loop-number l = Onward of_stream EntryFinds StreamMissing StreamStrange l.streams l.entries l.number
