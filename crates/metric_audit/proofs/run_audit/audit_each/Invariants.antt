-- nothing is found of the instruments so far
use Rattle.std.proofs.Common.{ℕ, ◌<◌, Ok, []}
use Rattle.std.specs.Prelude.{slice_get, slice_index_or}
use Rattle.metric_audit.specs.RunAudits.{AuditsOne}
use Rattle.metric_audit.proofs.run_audit.audit_each.Given as goal

abbrev pub invariant-loop-instrument : goal.invariant-loop-instrument
invariant-loop-instrument l =
    (other : ℕ) → other < l.instrument
    → AuditsOne l.plan l.start l.extent other (slice_get l.lists.journals.now other) (slice_get l.lists.slips.now other) (slice_index_or l.sorted other []) (Ok tt)
