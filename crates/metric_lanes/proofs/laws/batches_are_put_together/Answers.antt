-- by the marks and the points
use Rattle.metric_lanes.proofs.LanesLaws.{batches_together}
use Rattle.metric_lanes.proofs.laws.batches_are_put_together.Goals as goal

pub returns : goal.returns
returns c = batches_together
