-- a law of the definitions
use Rattle.metric_family.proofs.GrammarLaws.{labels_are_labels}
use Rattle.metric_family.proofs.laws.labels_are_labels.Goals as goal

pub returns : goal.returns
returns c = labels_are_labels
