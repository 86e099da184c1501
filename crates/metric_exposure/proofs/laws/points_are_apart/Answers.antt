-- a law of the definitions
use Rattle.metric_exposure.proofs.PointsApart.{points_are_apart}
use Rattle.metric_exposure.proofs.laws.points_are_apart.Goals as goal

pub returns : goal.returns
returns c = points_are_apart c.recordings_are_counted_once.ensures c.series_are_apart.ensures
