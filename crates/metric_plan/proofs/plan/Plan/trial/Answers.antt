use Rattle.std.proofs.Common.{rules}
use Rattle.metric_plan.proofs.plan.Plan.trial.Goals as goal

pub new-requires-clause-safe : goal.new-requires-clause-safe
new-requires-clause-safe c = search rules
