-- laws of the definitions
use Rattle.metric_exposition.proofs.TargetLaws.{target_labels_are_sound, target_labels_differ}
use Rattle.metric_exposition.proofs.laws.target_labels_are_sound.Goals as goal

pub returns : goal.returns
returns c = record { apart = target_labels_differ; sound = target_labels_are_sound c.labels_are_labels.ensures }
