-- attributes name full sets
use Rattle.metric_safety.proofs.HistoryLaws.{accepted_within}
use Rattle.metric_safety.proofs.laws.accepted_recordings_are_within_budgets.Goals as goal

pub returns : goal.returns
returns c = accepted_within c.attributes_name_allowed_sets.ensures
