-- laws of the definitions
use Rattle.metric_exposure.proofs.Passing.{labels_are_sound, names_are_sound}
use Rattle.metric_exposure.proofs.laws.names_and_labels_are_sound.Goals as goal

pub returns : goal.returns
returns c = record { names = names_are_sound c.families_are_names.ensures; labels = labels_are_sound c.labels_are_labels.ensures }
