-- what a fresh core answers is legal, so its audits fail only when out of memory
use Rattle.std.proofs.Common.{[], length, ap, sym, ◌∙◌}
use Rattle.std.proofs.lemmas.Result.{err_from_is_err_and}
use Rattle.metric_history.specs.Legal.{AllLegal}
use Rattle.metric_plan.specs.Plans.{IsPlan, PlanValue}
use Rattle.metric_kit_commands.proofs.AccountLaws.{accounts_as}
use Rattle.metric_kit_commands.proofs.AuditLaws.{run_refuses}
use Rattle.metric_kit_commands.proofs.TellingLaws.{one_reply_each}
use Rattle.metric_kit_commands.proofs.audits.audited_replies.Goals as goal

pub accounts_of-requires : goal.accounts_of-requires
accounts_of-requires c =
    ap length c.deref-2.ensures.value
    ∙ one_reply_each c.args.core.now.plan.facts c.args.core.now.start [] c.args.events.now c.in_ok-replies.replies.items (c.in_ok-replies.ensures.legal [] c.requires.fresh)

pub audit_each-requires-clause-stands : goal.audit_each-requires-clause-stands
audit_each-requires-clause-stands c = rw c.deref-3.ensures.value (c.in_ok-replies.ensures.stands [] c.requires.fresh)

pub audit_each-requires-clause-told : goal.audit_each-requires-clause-told
audit_each-requires-clause-told c =
    accounts_as c.catalogue-2.result.now c.run.new.self.plan.facts.contents c.deref-2.result.now c.deref-3.result.now c.args.events.now c.in_ok-accounts.accounts.items c.deref-4.result.now
    (c.catalogue-2.ensures.catalogue ∙ ap (λ (p : PlanValue). p.facts.contents) c.plan-2.ensures) (c.deref-2.ensures.value ∙ sym c.deref-3.ensures.value) c.deref-4.ensures.value
    c.in_ok-accounts.ensures

pub returns-in_err-audit_each-clause-memory : goal.returns-in_err-audit_each-clause-memory
returns-in_err-audit_each-clause-memory c =
    let legal : AllLegal c.args.core.now.plan.facts c.args.start [] c.args.events.now c.deref-3.result.now =
    rw (c.deref-3.ensures.value, ← c.requires.start) (c.in_ok-replies.ensures.legal [] c.requires.fresh) in
    let kept : IsPlan c.args.core.now.plan = rw c.plan.ensures at c.catalogue.ensures.kept in
    let p = err_from_is_err_and c.from_residual-in_err-audit_each.result c.from_residual-in_err-audit_each.ensures.1 in
    rw p.1
    (p.2
    ∙ run_refuses c.args.core.now.plan c.run.new.self.plan c.args.start c.args.events.now c.deref-3.result.now c.in_err-audit_each.field-0.0 kept
    c.attributes_name_allowed_sets.ensures c.runs_keep_histories_legal.ensures legal c.in_ok-replies.ensures.plan c.in_err-audit_each.ensures.err)
