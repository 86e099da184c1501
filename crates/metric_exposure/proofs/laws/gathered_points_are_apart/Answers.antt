-- laws of the definitions
use Rattle.metric_exposure.proofs.Gathered.{gathered_are_apart, gathered_stay_apart}
use Rattle.metric_exposure.proofs.laws.gathered_points_are_apart.Goals as goal

pub returns : goal.returns
returns c = record { shown = gathered_are_apart; held = gathered_stay_apart }
