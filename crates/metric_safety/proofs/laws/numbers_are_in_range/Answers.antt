-- attributes name full sets
use Rattle.metric_safety.proofs.BatchLaws.{numbers_fit}
use Rattle.metric_safety.proofs.laws.numbers_are_in_range.Goals as goal

pub returns : goal.returns
returns c = numbers_fit c.attributes_name_allowed_sets.ensures
