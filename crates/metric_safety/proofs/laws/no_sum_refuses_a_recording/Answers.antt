-- attributes name full sets
use Rattle.metric_safety.proofs.RefusalLaws.{no_sum_refuses}
use Rattle.metric_safety.proofs.laws.no_sum_refuses_a_recording.Goals as goal

pub returns : goal.returns
returns c = no_sum_refuses c.attributes_name_allowed_sets.ensures
