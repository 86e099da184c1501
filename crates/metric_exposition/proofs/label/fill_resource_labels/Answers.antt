use Rattle.std.proofs.Common.{map}
use Rattle.metric_contents.specs.Attributes.{given_by_owned}
use Rattle.metric_family.specs.Labels.{attribute_label}
use Rattle.metric_exposition.proofs.LabelLaws.{labels_are_joined}
use Rattle.metric_exposition.proofs.label.fill_resource_labels.Goals as goal

pub returns : goal.returns
returns c =
    rw (← labels_are_joined (map (λ attribute. attribute_label (given_by_owned attribute)) c.args.attributes.now), ← c.clear.ensures.items)
    c.push_owned.ensures
