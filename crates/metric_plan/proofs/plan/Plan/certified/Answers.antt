-- safe streams are of instruments whose recordings can be counted
use Rattle.metric_plan.proofs.PlanLaws.{safe_is_counted}
use Rattle.metric_plan.proofs.plan.Plan.certified.Goals as goal

pub new-requires-clause-counted : goal.new-requires-clause-counted
new-requires-clause-counted c = safe_is_counted c.args.catalogue c.args.streams c.requires.safe
