-- by the bounds of its windows
use Rattle.metric_lanes.proofs.GatheringLaws.{holds_journals}
use Rattle.metric_lanes.proofs.laws.certified_series_are_held.Goals as goal

pub returns : goal.returns
returns c = holds_journals c.journals_are_bounded.ensures.bounded
