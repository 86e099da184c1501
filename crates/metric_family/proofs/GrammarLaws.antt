-- Families and labels are of the grammar.
use Rattle.std.proofs.Common.{◌≡◌, ◌≢◌, ℕ, Bool, true, false, cond, not, ◌||◌, List, [], ◌∷◌, ◌++◌, refl, sym, ap, ◌∙◌, arith, ◌==◌}
use Rattle.std.specs.Prelude.{codes}
use Rattle.std.specs.Char.{is_ascii_alphanumeric, is_ascii_digit}
use Rattle.std.specs.Int.{is_in_range}
use Rattle.std.specs.List.{list_all}
use Rattle.metric_family.specs.Families.{family, family_parts, unless_digit}
use Rattle.metric_family.specs.Grammar.{IsLabel, IsName, IsReserved, is_label_character, is_label_start}
use Rattle.metric_family.specs.Labels.{is_bad, label_of, squeezed, unless_key}
use Rattle.metric_family.specs.Laws.{FamiliesAreNames, LabelsAreLabels}
use Rattle.metric_family.specs.Words.{joined}
use Rattle.metric_family.proofs.Characters.{Plain, and_both, and_first, and_second, plain_family_parts, plain_joined}
use Rattle.metric_family.proofs.Labels.{plain_squeezed}

-- what stands in a label and is no digit may begin one
no_digit : (d u l s : Bool) → (((d || u) || l) || s) ≡ true → d ≡ false → ((u || l) || s) ≡ true
no_digit true u l s e f = absurd cc
no_digit false u l s e f = e

start_of : (c : ℕ) → is_label_character c ≡ true → is_ascii_digit c ≡ false → is_label_start c ≡ true
start_of c e f = no_digit (is_in_range 48 57 c) (is_in_range 65 90 c) (is_in_range 97 122 c) (c == 95) e f

with_colons : (text : List ℕ) → Plain text → list_all (λ d. is_label_character d || d == 58) text ≡ true
with_colons [] e = refl
with_colons (c ∷ text) e =
    and_both _ _ (ap (λ b. b || c == 58) (and_first (is_label_character c) _ e)) (with_colons text (and_second (is_label_character c) _ e))

name_of : (name : List ℕ) → Plain name → unless_digit name ≢ [] → IsName (unless_digit name)
name_of [] e some = absurd (some refl)
name_of (c ∷ name) e some = by (is_ascii_digit c) refl
  where
    by : (b : Bool) → is_ascii_digit c ≡ b → IsName (cond b (95 ∷ c ∷ name) (c ∷ name))
    by true d = (refl, with_colons (c ∷ name) e)
    by false d =
        (ap (λ b. b || c == 58) (start_of c (and_first (is_label_character c) _ e) d), with_colons name (and_second (is_label_character c) _ e))

pub families_are_names : FamiliesAreNames
unfolding family
families_are_names stream some = name_of (joined (family_parts stream)) (plain_joined (family_parts stream) (plain_family_parts stream)) some

-- what follows a run of others is a letter or a digit
after_run : (text : List ℕ) (d : ℕ) (rest : List ℕ) → squeezed true text ≡ d ∷ rest → is_ascii_alphanumeric d ≡ true
after_run [] d rest e = absurd cc
after_run (c ∷ text) d rest e = by (is_ascii_alphanumeric c) refl (after_run text d rest) e
  where
    by : (b : Bool) → is_ascii_alphanumeric c ≡ b → (squeezed true text ≡ d ∷ rest → is_ascii_alphanumeric d ≡ true)
        → cond b (c ∷ []) [] ++ squeezed (not b) text ≡ d ∷ rest → is_ascii_alphanumeric d ≡ true
    by true h later e = let same : c ≡ d = cc in ap is_ascii_alphanumeric (sym same) ∙ h
    by false h later e = later e

not_twice : (text : List ℕ) (c d : ℕ) (rest : List ℕ) → squeezed false text ≡ c ∷ (d ∷ rest) → c ≡ 95 → d ≡ 95 → ⊥
not_twice [] c d rest e is also = cc
not_twice (x ∷ text) c d rest e is also = by (is_ascii_alphanumeric x) refl e
  where
    by : (b : Bool) → is_ascii_alphanumeric x ≡ b → cond b (x ∷ []) (95 ∷ []) ++ squeezed (not b) text ≡ c ∷ (d ∷ rest) → ⊥
    by true h e =
        let same : x ≡ c = cc in
        let wrong : false ≡ true = sym (ap is_ascii_alphanumeric (same ∙ is)) ∙ h in
        cc
    by false h e =
        let later : squeezed true text ≡ d ∷ rest = cc in
        let wrong : false ≡ true = sym (ap is_ascii_alphanumeric also) ∙ after_run text d rest later in
        cc

-- the front of a label, where it is none of two
not_reserved : (key label : List ℕ) → squeezed false key ≡ label → IsReserved label → ⊥
not_reserved key [] e r = r
not_reserved key (c ∷ []) e r = r
not_reserved key (c ∷ d ∷ rest) e r = not_twice key c d rest e r.0 r.1

label_of_run : (key label : List ℕ) → squeezed false key ≡ label → Plain label → is_bad (unless_key label) ≡ false → IsLabel (unless_key label)
label_of_run key [] is e good = absurd cc
label_of_run key (c ∷ label) is e good = by (is_ascii_digit c) refl
  where
    by : (b : Bool) → is_ascii_digit c ≡ b → IsLabel (cond b (codes "key_" ++ c ∷ label) (c ∷ label))
    by true d = (refl, e, λ r. omega (arith, r.0))
    by false d = (start_of c (and_first (is_label_character c) _ e) d, and_second (is_label_character c) _ e, not_reserved key (c ∷ label) is)

pub labels_are_labels : LabelsAreLabels
unfolding label_of
labels_are_labels key good = label_of_run key (squeezed false key) refl (plain_squeezed false key) good
