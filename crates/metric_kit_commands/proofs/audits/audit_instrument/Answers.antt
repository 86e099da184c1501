-- the audit ends as it answers
use Rattle.std.proofs.Common.{Ok, Err, [], ap, refl, ◌∙◌}
use Rattle.std.proofs.lemmas.Result.{err_from_is_err_and}
use Rattle.metric_history.specs.Legal.{grown}
use Rattle.metric_kit_commands.specs.Accounts.{batches_at}
use Rattle.metric_kit_commands.proofs.AuditLaws.{ends_as, fails_as}
use Rattle.metric_kit_commands.proofs.audits.audit_instrument.Goals as goal

pub returns-clause-ok : goal.returns-clause-ok
returns-clause-ok c =
    let run = c.args.run.now in
    ends_as c.args.plan.now.facts run.start c.args.entries.now run.replies.now (grown [] run.events.now run.replies.now) c.args.instrument c.args.account.now
    c.as_slice-slips.result.now c.in_ok-batches.batches.items c.deref.result.now (Ok tt) (Ok tt) c.requires.told
    c.as_slice-slips.ensures.value (c.in_ok-batches.ensures ∙ ap (batches_at run.replies.now) c.as_slice.ensures.value) c.deref.ensures.value refl c.in_ok-audit.ensures

pub returns-in_err-audit-clause-err : goal.returns-in_err-audit-clause-err
returns-in_err-audit-clause-err c =
    let run = c.args.run.now in
    let fault = c.in_err-audit.field-0.0 in
    let p = err_from_is_err_and c.from_residual-in_err-audit.result c.from_residual-in_err-audit.ensures.1 in
    rw p.1
    (fails_as c.args.plan.now.facts run.start c.args.entries.now (grown [] run.events.now run.replies.now) c.args.instrument fault _
    (ends_as c.args.plan.now.facts run.start c.args.entries.now run.replies.now (grown [] run.events.now run.replies.now) c.args.instrument c.args.account.now
    c.as_slice-slips.result.now c.in_ok-batches.batches.items c.deref.result.now (Err fault) (Err fault) c.requires.told
    c.as_slice-slips.ensures.value (c.in_ok-batches.ensures ∙ ap (batches_at run.replies.now) c.as_slice.ensures.value) c.deref.ensures.value refl c.in_err-audit.ensures)
    p.2)
