-- a law of the definitions
use Rattle.metric_family.proofs.GrammarLaws.{families_are_names}
use Rattle.metric_family.proofs.laws.families_are_names.Goals as goal

pub returns : goal.returns
returns c = families_are_names
