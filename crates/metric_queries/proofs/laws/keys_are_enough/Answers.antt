use Rattle.metric_queries.proofs.KeyByKey.{keys_are_enough}
use Rattle.metric_queries.proofs.laws.keys_are_enough.Goals as goal

pub returns : goal.returns
returns c = keys_are_enough c.names_and_labels_are_sound.ensures.names c.names_and_labels_are_sound.ensures.labels
