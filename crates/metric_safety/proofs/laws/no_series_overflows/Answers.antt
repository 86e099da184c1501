-- attributes name full sets
use Rattle.metric_safety.proofs.BatchLaws.{nothing_overflows}
use Rattle.metric_safety.proofs.laws.no_series_overflows.Goals as goal

pub returns : goal.returns
returns c = nothing_overflows c.attributes_name_allowed_sets.ensures
