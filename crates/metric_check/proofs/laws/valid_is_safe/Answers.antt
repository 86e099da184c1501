-- the lemma
use Rattle.metric_check.proofs.Safety.{valid_is_safe}
use Rattle.metric_check.proofs.laws.valid_is_safe.Goals as goal

pub returns : goal.returns
returns c = valid_is_safe
