-- What labels are made of, and how they are written.
use Rattle.std.proofs.Common.{◌≡◌, ℕ, ◌+◌, Bool, true, false, cond, List, [], ◌∷◌, ◌++◌, refl, ap, ◌∙◌}
use Rattle.std.specs.Prelude.{codes}
use Rattle.std.specs.Char.{is_ascii_alphanumeric, is_ascii_digit}
use Rattle.std.proofs.lemmas.List.Folds.{list_all-append}
use Rattle.metric_family.specs.Grammar.{is_label_character}
use Rattle.metric_family.specs.Labels.{label_of, squeezed, squeezed_one, unless_key}
use Rattle.metric_family.specs.Words.{is_between}
use Rattle.metric_family.proofs.Characters.{Plain, and_both, plain_letter}

plain_one : (between : Bool) (c : ℕ) → Plain (squeezed_one between c)
plain_one between c = by (is_ascii_alphanumeric c) refl between
  where
    by : (b : Bool) → is_ascii_alphanumeric c ≡ b → (between : Bool) → Plain (cond b (c ∷ []) (cond between [] (95 ∷ [])))
    by true e between = rw (plain_letter c e) refl
    by false e true = refl
    by false e false = refl

pub plain_squeezed : (between : Bool) (text : List ℕ) → Plain (squeezed between text)
plain_squeezed between [] = refl
plain_squeezed between (c ∷ text) =
    list_all-append is_label_character (squeezed_one between c) (squeezed (is_between c) text) ∙ and_both _ _ (plain_one between c) (plain_squeezed (is_between c) text)

plain_unless_key : (label : List ℕ) → Plain label → Plain (unless_key label)
plain_unless_key [] e = refl
plain_unless_key (c ∷ label) e = by (is_ascii_digit c)
  where
    by : (b : Bool) → Plain (cond b (codes "key_" ++ c ∷ label) (c ∷ label))
    by true = e
    by false = e

pub plain_label : (key : List ℕ) → Plain (label_of key)
unfolding label_of
plain_label key = plain_unless_key (squeezed false key) (plain_squeezed false key)
