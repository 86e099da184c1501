-- the streams are what views give
use Rattle.metric_safety.proofs.PlanLaws.{plan_runs}
use Rattle.metric_safety.proofs.laws.safe_plans_run_safely.Goals as goal

pub returns : goal.returns
returns c = plan_runs c.streams_are_what_views_give.ensures.exact
