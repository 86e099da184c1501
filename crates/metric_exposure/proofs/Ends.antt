-- The names of a family are it with each of its ends.
use Rattle.std.proofs.Common.{◌≡◌, ℕ, false, ◌==◌, List, [], ◌∷◌, ◌++◌, length, map, refl, ap, ◌∙◌}
use Rattle.metric_family.specs.declared.metric_type.MetricType.{MetricType}
use Rattle.metric_family.specs.Families.{claims_by, suffixes}

mapped : {X : Type 0} (now : X → List ℕ) (family : List ℕ) (ends : List X) → map (λ end. family ++ now end) ends ≡ map (λ end. family ++ end) (map now ends)
mapped now family [] = refl
mapped now family (end ∷ ends) = ap (λ (names : List (List ℕ)). (family ++ now end) ∷ names) (mapped now family ends)

pub claims_are : {X : Type 0} (now : X → List ℕ) (family : List ℕ) (kind : MetricType) (ends : List X) → (length family == 0) ≡ false → map now ends ≡ suffixes kind
    → map (λ end. family ++ now end) ends ≡ claims_by family kind
claims_are now [] kind ends some e = absurd cc
claims_are now (c ∷ family) kind ends some e = mapped now (c ∷ family) ends ∙ ap (map (λ (end : List ℕ). (c ∷ family) ++ end)) e
