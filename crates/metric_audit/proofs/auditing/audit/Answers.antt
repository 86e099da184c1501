-- there are few readers, the streams by product have room for their series, and what was found is the answer
use Rattle.std.proofs.Common.{◌≡◌, None, subst, sym, ◌∙◌}
use Rattle.std.proofs.lemmas.Option.{same_Some}
use Rattle.metric_catalogue.specs.Sound.{IsSound}
use Rattle.metric_facts.specs.declared.facts.FactsFields.{FactsFields as Facts}
use Rattle.metric_plan.specs.DenseFacts.{plan_dense}
use Rattle.metric_audit.specs.Audits.{first_impossible}
use Rattle.metric_audit.specs.Batches.{AreAllRight, IsFirstWrong}
use Rattle.metric_audit.specs.Slips.{FindsUnlike}
use Rattle.metric_audit.proofs.BatchLaws.{found-none, found-wrong}
use Rattle.metric_audit.proofs.PlanLaws.{few-readers}
use Rattle.metric_audit.proofs.auditing.audit.Goals as goal

pub first_wrong-requires-clause-few : goal.first_wrong-requires-clause-few
first_wrong-requires-clause-few c =
    few-readers c.args.plan.now c.args.instrument c.facts-facts.result.now c.facts-facts.ensures.kept c.facts-facts.ensures.facts
    (rw c.config.ensures at c.readers-readers.ensures.few)

pub first_wrong-requires-clause-dense : goal.first_wrong-requires-clause-dense
first_wrong-requires-clause-dense c =
    plan_dense c.args.plan.now c.args.instrument c.facts-facts.result.now c.facts-facts.ensures.kept (subst IsSound c.catalogue.ensures.catalogue c.recorders-few.ensures.sound) c.facts-facts.ensures.facts

pub returns-then-at-batches : goal.returns-then-at-batches
returns-then-at-batches c = λ facts known.
    let same : c.facts-facts.result.now ≡ facts = same_Some c.facts-facts.result.now facts (sym c.facts-facts.ensures.facts ∙ known) in (
      subst (FindsUnlike c.args.entries.now c.args.slips.now) c.in_default.is c.in_ok-recorder.ensures,
      subst (λ (f : Facts). first_impossible f c.args.entries.now ≡ None) same (sym c.first_impossible.ensures ∙ c.in_default-first_impossible.is),
      subst (λ (f : Facts). IsFirstWrong f c.args.instrument c.args.start c.args.entries.now c.args.batches.now c.in_ok-at.at) same
          (found-wrong c.facts-facts.result.now c.args.instrument c.args.start c.args.entries.now c.args.batches.now c.in_ok-at.at c.if-at-batches.true c.in_ok-at.ensures),
    )

pub returns : goal.returns
returns c = λ facts known.
    let same : c.facts-facts.result.now ≡ facts = same_Some c.facts-facts.result.now facts (sym c.facts-facts.ensures.facts ∙ known) in (
      subst (FindsUnlike c.args.entries.now c.args.slips.now) c.in_default.is c.in_ok-recorder.ensures,
      subst (λ (f : Facts). first_impossible f c.args.entries.now ≡ None) same (sym c.first_impossible.ensures ∙ c.in_default-first_impossible.is),
      subst (λ (f : Facts). AreAllRight f c.args.instrument c.args.start c.args.entries.now c.args.batches.now) same
          (found-none c.facts-facts.result.now c.args.instrument c.args.start c.args.entries.now c.args.batches.now c.in_ok-at.at c.if-at-batches.false c.in_ok-at.ensures),
    )
