use Rattle.metric_queries.proofs.KeyByKey.{sets_are_found}
use Rattle.metric_queries.proofs.laws.sets_are_found.Goals as goal

pub returns : goal.returns
returns c = sets_are_found c.names_and_labels_are_sound.ensures.names c.names_and_labels_are_sound.ensures.labels
