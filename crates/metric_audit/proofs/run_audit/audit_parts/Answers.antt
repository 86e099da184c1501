-- the readers are those of the plan
use Rattle.std.proofs.Common.{◌≡◌, ℕ, None, Some, length, ap, refl, subst}
use Rattle.metric_audit.specs.RunAudits.{FindsUncovered}
use Rattle.metric_audit.proofs.run_audit.audit_parts.Goals as goal

pub returns-in-None : goal.returns-in-None
returns-in-None c =
    let same : length c.readers.result.now ≡ length c.args.plan.now.config.readers = ap length (rw c.config.ensures at c.readers.ensures.readers) in
    (c.in-Ok.ensures, subst (λ (n : ℕ). FindsUncovered c.args.extent n (length c.args.journal.now) c.args.told.now None) same c.in-None.ensures)

pub returns-in-Some : goal.returns-in-Some
returns-in-Some c =
    let same : length c.readers.result.now ≡ length c.args.plan.now.config.readers = ap length (rw c.config.ensures at c.readers.ensures.readers) in
    (refl, c.in-Ok.ensures, subst (λ (n : ℕ). FindsUncovered c.args.extent n (length c.args.journal.now) c.args.told.now (Some c.in-Some.reader)) same c.in-Some.ensures)
