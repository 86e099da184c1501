-- a law of the definitions
use Rattle.metric_exposure.proofs.Renamed.{points_stay_apart}
use Rattle.metric_exposure.proofs.laws.points_stay_apart.Goals as goal

pub returns : goal.returns
returns c = points_stay_apart c.recordings_are_counted_once.ensures
