-- each plan keeps what makes it a safe one
use Rattle.metric_sdk.proofs.HeadlineLaws.{exact_runs, safe_plan}
use Rattle.metric_sdk.proofs.headline.certified_plans_run_exactly.Goals as goal

pub returns : goal.returns
returns g c =
    exact_runs g.B.Book.stands c.runs_keep_histories_legal.ensures c.recordings_are_counted_once.ensures c.safe_plans_have_safe_histories.ensures
    c.args.plan.now
    (safe_plan c.args.plan.now c.catalogue.result.now c.catalogue.ensures.kept c.catalogue.ensures.catalogue c.instruments.ensures.sound c.requires)
