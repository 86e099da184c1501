-- What holds of the attributes of a resource that can be the labels of one line.
use Rattle.std.specs.Prelude.{◌≡◌, ◌≢◌, ℕ, ◌<◌, List, Some, Ok, slice_get}
use Rattle.metric_contents.specs.declared.attributes.OwnedAttr.{OwnedAttr}
use Rattle.metric_family.specs.Grammar.{IsLabel}
use Rattle.metric_family.specs.Labels.{label_of}
use Rattle.metric_exposition.specs.TargetFaults.{target_check}

-- # labels of a target that passes (Prometheus data model) [TargetLabelsDiffer, TargetLabelsAreSound]
-- They differ from each other, and each is of the grammar.
abbrev pub TargetLabelsDiffer : Type 0
TargetLabelsDiffer =
    (resource : List OwnedAttr) (first later : ℕ) (attribute other : OwnedAttr)
    → target_check resource ≡ Ok tt → first < later
    → slice_get resource first ≡ Some attribute → slice_get resource later ≡ Some other
    → label_of attribute.key ≢ label_of other.key

abbrev pub TargetLabelsAreSound : Type 0
TargetLabelsAreSound =
    (resource : List OwnedAttr) (place : ℕ) (attribute : OwnedAttr)
    → target_check resource ≡ Ok tt → slice_get resource place ≡ Some attribute
    → IsLabel (label_of attribute.key)
