-- Labels that are written one after the other are all of them with commas between.
use Rattle.std.proofs.Common.{◌≡◌, ℕ, suc, ◌==◌, Bool, true, false, if◌then◌else◌, List, [], ◌∷◌, ◌++◌, refl, ap, sym, ◌∙◌}
use Rattle.std.proofs.Common.{append_assoc, append-nil, arith, length}
use Rattle.std.proofs.lemmas.Bool.Decides.{nat_tests}
use Rattle.std.specs.List.{flat_map, join_by}
use Rattle.metric_family.specs.Labels.{Label, shown}
use Rattle.metric_family.specs.Words.{is_some}
use Rattle.metric_exposition.specs.LabelTexts.{comma_after, label_text, labels_text, quoted, with_label, with_labels}

pub with_labels-append : (text : List ℕ) (labels others : List Label)
    → with_labels text (labels ++ others) ≡ with_labels (with_labels text labels) others
with_labels-append text [] others = refl
with_labels-append text (label ∷ labels) others = with_labels-append (with_label text label) labels others

not_zero : (n : ℕ) → (suc n == 0) ≡ false
not_zero n = grind (arith, nat_tests)

after_some : (c : ℕ) (text : List ℕ) → comma_after (c ∷ text) ≡ c ∷ (text ++ 44 ∷ [])
unfolding comma_after
after_some c text = rw (not_zero (length text)) refl

after_none : comma_after [] ≡ []
unfolding comma_after
after_none = refl

-- labels with a comma before each
abbrev led : List Label → List ℕ
led labels = flat_map (λ label. (44 ∷ []) ++ label_text label) labels

-- what labels that are shown add to a text
abbrev Grows : List Label → Type 0
Grows labels = (c : ℕ) (text : List ℕ) → with_labels (c ∷ text) labels ≡ c ∷ (text ++ led (shown labels))

grown_by : (b : Bool) (label : Label) (labels : List Label) → Grows labels → (c : ℕ) (text : List ℕ)
    → with_labels (if b then comma_after (c ∷ text) ++ label_text label else c ∷ text) labels
    ≡ c ∷ (text ++ led (if b then label ∷ shown labels else shown labels))
grown_by true label labels grows c text =
    rw (after_some c text)
    (grows c ((text ++ 44 ∷ []) ++ label_text label)
    ∙ ap (λ ys. c ∷ ys) (append_assoc (text ++ 44 ∷ []) (label_text label) (led (shown labels)) ∙ append_assoc text (44 ∷ []) (label_text label ++ led (shown labels))))
grown_by false label labels grows c text = grows c text

grown : (labels : List Label) → Grows labels
unfolding with_label
grown [] c text = ap (λ ys. c ∷ ys) (sym (append-nil text))
grown (label ∷ labels) c text = grown_by (is_some label.1) label labels (grown labels) c text

-- behind the first label
grown_label : (name text : List ℕ) (labels : List Label)
    → with_labels (name ++ quoted text) labels ≡ (name ++ quoted text) ++ led (shown labels)
unfolding quoted
grown_label [] text labels = grown labels 61 _
grown_label (c ∷ name) text labels = grown labels c (name ++ quoted text)

begun_by : (b : Bool) (label : Label) (labels : List Label) → with_labels [] labels ≡ labels_text labels
    → with_labels (if b then comma_after [] ++ label_text label else []) labels
    ≡ join_by label_text (44 ∷ []) (if b then label ∷ shown labels else shown labels)
unfolding labels_text
begun_by true label labels begun = rw after_none (grown_label label.0 label.1 labels)
begun_by false label labels begun = begun

pub labels_are_joined : (labels : List Label) → with_labels [] labels ≡ labels_text labels
unfolding with_label labels_text
labels_are_joined [] = refl
labels_are_joined (label ∷ labels) = begun_by (is_some label.1) label labels (labels_are_joined labels)
