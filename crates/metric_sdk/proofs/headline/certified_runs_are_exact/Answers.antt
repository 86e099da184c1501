-- what is safe, and so what a valid certificate is for, makes the plan safe
use Rattle.std.proofs.Common.{true}
use Rattle.metric_check.specs.Products.{by_product_of}
use Rattle.metric_plan.specs.Plans.{plan_of}
use Rattle.metric_sdk.proofs.HeadlineLaws.{exact_runs}
use Rattle.metric_sdk.proofs.headline.certified_runs_are_exact.Goals as goal

pub returns-clause-safe : goal.returns-clause-safe
returns-clause-safe g c is_certified by_product contents config sound safe fit =
    exact_runs g.B.Book.stands c.runs_keep_histories_legal.ensures c.recordings_are_counted_once.ensures c.safe_plans_have_safe_histories.ensures
    (plan_of is_certified by_product contents config)
    (c.safe_configs_give_safe_plans.ensures is_certified by_product contents config sound safe fit)

pub returns-clause-certified : goal.returns-clause-certified
returns-clause-certified g c contents config certificate sound valid fit =
    exact_runs g.B.Book.stands c.runs_keep_histories_legal.ensures c.recordings_are_counted_once.ensures c.safe_plans_have_safe_histories.ensures
    (plan_of true (by_product_of certificate) contents config)
    (c.safe_configs_give_safe_plans.ensures true (by_product_of certificate) contents config sound (c.valid_is_safe.ensures contents config certificate sound valid) fit)
