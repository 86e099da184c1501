use Rattle.metric_meaning.proofs.MadeLaws.{attributes_are_keys}
use Rattle.metric_meaning.proofs.laws.attributes_are_keys.Goals as goal

pub returns : goal.returns
returns c = attributes_are_keys
