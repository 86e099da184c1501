-- a law of the definitions
use Rattle.metric_exposure.proofs.Series.{series_are_apart}
use Rattle.metric_exposure.proofs.laws.series_are_apart.Goals as goal

pub returns : goal.returns
returns c = series_are_apart
