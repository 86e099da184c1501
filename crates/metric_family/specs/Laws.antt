-- What families and labels promise.
use Rattle.std.specs.Prelude.{◌≡◌, ◌≢◌, ℕ, List, [], false}
use Rattle.metric_views.specs.declared.stream.Stream.{Stream}
use Rattle.metric_family.specs.Families.{family, unit_text}
use Rattle.metric_family.specs.Labels.{is_bad, label_of}
use Rattle.metric_family.specs.Grammar.{IsLabel, IsName}

-- each family that has a name is of the grammar
abbrev pub FamiliesAreNames : Type 0
FamiliesAreNames = (stream : Stream) → family stream ≢ [] → IsName (family stream)

-- so is each label that says something
abbrev pub LabelsAreLabels : Type 0
LabelsAreLabels = (key : List ℕ) → is_bad (label_of key) ≡ false → IsLabel (label_of key)

-- a unit that is told of a family is not the family itself
abbrev pub UnitsArePartsOfFamilies : Type 0
UnitsArePartsOfFamilies = (stream : Stream) → unit_text stream ≢ [] → unit_text stream ≢ family stream
