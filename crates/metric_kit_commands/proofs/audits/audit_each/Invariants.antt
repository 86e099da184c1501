-- each instrument so far was audited
use Rattle.std.proofs.Common.{◌<◌, ℕ, Ok, []}
use Rattle.metric_kit_commands.specs.Audits.{AuditEnds}
use Rattle.metric_history.specs.History.{accepted}
use Rattle.metric_history.specs.Legal.{grown}
use Rattle.metric_kit_commands.proofs.audits.audit_each.Given as goal

abbrev pub invariant-loop-instrument : goal.invariant-loop-instrument
invariant-loop-instrument l =
    (i : ℕ) → i < l.instrument
    → AuditEnds l.core.plan.facts l.run.start (accepted l.core.plan.facts (grown [] l.run.events.now l.run.replies.now) i) (grown [] l.run.events.now l.run.replies.now) i (Ok tt)
