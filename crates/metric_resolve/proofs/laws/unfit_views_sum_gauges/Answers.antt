-- laws of the definitions
use Rattle.metric_resolve.proofs.UnfitLaws.{unfit_exact, unfit_ordered}
use Rattle.metric_resolve.proofs.laws.unfit_views_sum_gauges.Goals as goal

pub returns : goal.returns
returns c = record { exact = unfit_exact; order = unfit_ordered }
