-- Where no label of a target is at fault, its labels differ, and each says something.
use Rattle.std.proofs.Common.{◌≡◌, ℕ, zero, suc, ◌+◌, ◌<◌, Bool, true, false, cond, List, [], ◌∷◌, Option, Some, None, refl, sym, ap, ◌∙◌, arith}
use Rattle.std.specs.Prelude.{Ok, slice_get}
use Rattle.std.specs.List.{position_from}
use Rattle.std.specs.Option.{option_map, option_or}
use Rattle.std.specs.Str.{bytes_eq}
use Rattle.std.proofs.lemmas.Slice.Eq.{bytes_eq-Decides}
use Rattle.metric_base.specs.Steps.{require_none}
use Rattle.metric_contents.specs.declared.attributes.OwnedAttr.{OwnedAttr}
use Rattle.metric_family.specs.Labels.{is_bad, label_of}
use Rattle.metric_family.specs.Laws.{LabelsAreLabels}
use Rattle.metric_exposition.specs.Laws.{TargetLabelsAreSound, TargetLabelsDiffer}
use Rattle.metric_exposition.specs.TargetFaults.{label_fault, labels_of, target_fault}
use Rattle.metric_exposition.specs.declared.target.TargetFault.{TargetFault}
use Rattle.metric_exposition.specs.declared.target.TargetFault.TheVariants as faults

none_told : (fault : Option TargetFault) → require_none fault (λ f. f) ≡ Ok tt → fault ≡ None
none_told None e = refl
none_told (Some fault) e = absurd cc

first_none : (a b : Option TargetFault) → option_or a b ≡ None → a ≡ None
first_none None b e = refl
first_none (Some fault) b e = absurd cc

second_none : (a b : Option TargetFault) → option_or a b ≡ None → b ≡ None
second_none None b e = e
second_none (Some fault) b e = absurd cc

-- a label without a fault says something, and none behind it is the same
not_bad : (place : ℕ) (label : List ℕ) (later : List (List ℕ)) → label_fault place label later ≡ None → is_bad label ≡ false
not_bad place label later e = by (is_bad label) e
  where
    by : (b : Bool) → cond b (Some (faults.BadLabel place)) (option_map (faults.LabelCollision place) (position_from (bytes_eq label) (place + 1) later)) ≡ None → b ≡ false
    by true e = absurd cc
    by false e = refl

not_again : (place : ℕ) (label : List ℕ) (later : List (List ℕ)) → label_fault place label later ≡ None → position_from (bytes_eq label) (place + 1) later ≡ None
not_again place label later e = by (is_bad label) (position_from (bytes_eq label) (place + 1) later) e
  where
    by : (b : Bool) (o : Option ℕ) → cond b (Some (faults.BadLabel place)) (option_map (faults.LabelCollision place) o) ≡ None → o ≡ None
    by true o e = absurd cc
    by false None e = refl
    by false (Some other) e = absurd cc

none_passes : (label : List ℕ) (i : ℕ) (xs : List (List ℕ)) (k : ℕ) (x : List ℕ) → position_from (bytes_eq label) i xs ≡ None → slice_get xs k ≡ Some x → bytes_eq label x ≡ false
none_passes label i [] k x e at = absurd cc
none_passes label i (y ∷ ys) k x e at = by (bytes_eq label y) refl e k at (λ k. none_passes label (i + 1) ys k x)
  where
    by : (b : Bool) → bytes_eq label y ≡ b → cond b (Some i) (position_from (bytes_eq label) (i + 1) ys) ≡ None → (k : ℕ) → slice_get (y ∷ ys) k ≡ Some x
        → ((k : ℕ) → position_from (bytes_eq label) (i + 1) ys ≡ None → slice_get ys k ≡ Some x → bytes_eq label x ≡ false) → bytes_eq label x ≡ false
    by true is e k at later = absurd cc
    by false is e zero at later = let same : y ≡ x = cc in ap (bytes_eq label) (sym same) ∙ is
    by false is e (suc k) at later = later k e at

differ : (place : ℕ) (labels : List (List ℕ)) (i j : ℕ) (x y : List ℕ) → target_fault place labels ≡ None → i < j → slice_get labels i ≡ Some x → slice_get labels j ≡ Some y → x ≡ y → ⊥
differ place [] i j x y none less at also same = absurd cc
differ place (label ∷ later) i zero x y none less at also same = absurd (omega arith)
differ place (label ∷ later) zero (suc j) x y none less at also same =
    let own : label ≡ x = cc in
    let again = not_again place label later (first_none (label_fault place label later) (target_fault (place + 1) later) none) in
    let apart = none_passes label (place + 1) later j y again also in
    let wrong : true ≡ false = sym ((bytes_eq-Decides label y).1 (own ∙ same)) ∙ apart in
    cc
differ place (label ∷ later) (suc i) (suc j) x y none less at also same =
    differ (place + 1) later i j x y (second_none (label_fault place label later) (target_fault (place + 1) later) none) (omega arith) at also same

said : (place : ℕ) (labels : List (List ℕ)) (i : ℕ) (x : List ℕ) → target_fault place labels ≡ None → slice_get labels i ≡ Some x → is_bad x ≡ false
said place [] i x none at = absurd cc
said place (label ∷ later) zero x none at =
    let own : label ≡ x = cc in
    ap is_bad (sym own) ∙ not_bad place label later (first_none (label_fault place label later) (target_fault (place + 1) later) none)
said place (label ∷ later) (suc i) x none at =
    said (place + 1) later i x (second_none (label_fault place label later) (target_fault (place + 1) later) none) at

label_at : (resource : List OwnedAttr) (i : ℕ) (attribute : OwnedAttr) → slice_get resource i ≡ Some attribute → slice_get (labels_of resource) i ≡ Some (label_of attribute.key)
label_at [] i attribute at = absurd cc
label_at (x ∷ resource) zero attribute at = let same : x ≡ attribute = cc in ap (λ (a : OwnedAttr). Some (label_of a.key)) same
label_at (x ∷ resource) (suc i) attribute at = label_at resource i attribute at

pub target_labels_differ : TargetLabelsDiffer
target_labels_differ resource first later attribute other e less at also same =
    differ 0 (labels_of resource) first later (label_of attribute.key) (label_of other.key) (none_told (target_fault 0 (labels_of resource)) e) less
    (label_at resource first attribute at) (label_at resource later other also) same

pub target_labels_are_sound : LabelsAreLabels → TargetLabelsAreSound
target_labels_are_sound law resource place attribute e at =
    law attribute.key (said 0 (labels_of resource) place (label_of attribute.key) (none_told (target_fault 0 (labels_of resource)) e) (label_at resource place attribute at))
