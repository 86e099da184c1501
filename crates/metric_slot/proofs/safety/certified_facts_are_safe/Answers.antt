-- a certified plan is safe
use Rattle.metric_slot.proofs.PlanLaws.{are_certified}
use Rattle.metric_slot.proofs.safety.certified_facts_are_safe.Goals as goal

pub returns : goal.returns
returns c = are_certified c.args.plan.now c.catalogue.result.now c.catalogue.ensures.kept c.catalogue.ensures.catalogue c.instruments.ensures.sound c.safe_plans_run_safely.ensures c.requires
