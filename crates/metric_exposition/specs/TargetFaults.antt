-- What keeps the attributes of a resource out of a page.
use Rattle.std.specs.Prelude.{ℕ, ◌+◌, List, [], ◌∷◌, Option, Some, None, Result, if◌then◌else◌, map}
use Rattle.std.specs.List.{position_from}
use Rattle.std.specs.Option.{option_map, option_or}
use Rattle.std.specs.Str.{bytes_eq}
use Rattle.metric_base.specs.Steps.{require_none}
use Rattle.metric_contents.specs.declared.attributes.OwnedAttr.{OwnedAttr}
use Rattle.metric_family.specs.Labels.{is_bad, label_of}
use Rattle.metric_exposition.specs.declared.target.TargetFault.{TargetFault}
use Rattle.metric_exposition.specs.declared.target.TargetFault.TheVariants.{BadLabel, LabelCollision}

-- the label of each attribute
abbrev pub labels_of : List OwnedAttr → List (List ℕ)
labels_of resource = map (λ (attribute : OwnedAttr). label_of attribute.key) resource

-- the label says nothing of its key, or one behind it is the same
abbrev pub label_fault : ℕ → List ℕ → List (List ℕ) → Option TargetFault
label_fault place label later =
    if is_bad label then Some (BadLabel place)
    else option_map (LabelCollision place) (position_from (bytes_eq label) (place + 1) later)

-- # fault of a target (Prometheus data model) [label_fault, target_fault, target_check]
-- The first attribute whose label says nothing of its key, or is that of a later attribute too.
abbrev pub target_fault : ℕ → List (List ℕ) → Option TargetFault
target_fault place [] = None
target_fault place (label ∷ later) =
    option_or (label_fault place label later) (target_fault (place + 1) later)

-- the attributes can be the labels of one line, or their first fault
abbrev pub target_check : List OwnedAttr → Result (Unit {0}) TargetFault
target_check resource = require_none (target_fault 0 (labels_of resource)) (λ fault. fault)
