-- the account of each instrument
use Rattle.std.proofs.Common.{rules, arith, ◌<◌, [], length, refl, subst, sym}
use Rattle.std.proofs.lemmas.Option.{slice_get_read}
use Rattle.metric_history.specs.Legal.{grown}
use Rattle.metric_plan.specs.Plans.{PlanValue}
use Rattle.metric_kit_commands.specs.Accounts.{IsAccount}
use Rattle.metric_kit_commands.proofs.audits.audit_each.Goals as goal

pub audit_instrument-requires-clause-told : goal.audit_instrument-requires-clause-told
audit_instrument-requires-clause-told c =
    let run = c.args.run.now in
    let within : c.loop-instrument.instrument < length c.args.accounts.now = search (rules, arith) in
    subst (λ (p : PlanValue). IsAccount p.facts.contents run.replies.now (grown [] run.events.now run.replies.now) c.loop-instrument.instrument c.index-accounts-instrument.result) (sym c.plan-plan.ensures)
    (c.requires.told.own c.loop-instrument.instrument c.index-accounts-instrument.result
    (slice_get_read c.args.accounts.now _ c.loop-instrument.instrument c.index-accounts-instrument.result refl within c.index-accounts-instrument.is))
