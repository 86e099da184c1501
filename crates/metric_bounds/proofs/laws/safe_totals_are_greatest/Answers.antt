-- both ways
use Rattle.metric_bounds.specs.MostLaws.{safe_within, within_safe}
use Rattle.metric_bounds.proofs.laws.safe_totals_are_greatest.Goals as goal

pub returns : goal.returns
returns c = λ total instrument ordered short. (safe_within total instrument ordered, within_safe total instrument ordered short)
