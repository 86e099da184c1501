-- Texts that are not the same.
use Rattle.std.proofs.Common.{◌≡◌, ℕ, Bool, true, false, List, refl, sym, ◌∙◌}
use Rattle.std.specs.Str.{bytes_eq}
use Rattle.std.proofs.lemmas.Slice.Eq.{bytes_eq-Decides}

pub other : (name label : List ℕ) → (label ≡ name → ⊥) → bytes_eq name label ≡ false
other name label wrong = by (bytes_eq name label) refl
  where
    by : (b : Bool) → bytes_eq name label ≡ b → b ≡ false
    by false e = refl
    by true e = absurd (wrong (sym ((bytes_eq-Decides name label).0 e)))

pub flipped : (name label : List ℕ) → bytes_eq label name ≡ false → bytes_eq name label ≡ false
flipped name label e =
    other name label (λ same. let wrong : true ≡ false = sym ((bytes_eq-Decides label name).1 same) ∙ e in absurd cc)
