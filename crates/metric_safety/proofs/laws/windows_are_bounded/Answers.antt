-- attributes name full sets
use Rattle.metric_safety.proofs.BatchLaws.{windows_bounded}
use Rattle.metric_safety.proofs.laws.windows_are_bounded.Goals as goal

pub returns : goal.returns
returns c = windows_bounded c.attributes_name_allowed_sets.ensures
