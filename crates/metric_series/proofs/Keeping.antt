-- Where all keys are kept, a set stays as it is.
use Rattle.std.proofs.Common.{◌≡◌, ℕ, Bool, true, false, List, [], ◌∷◌, refl, sym, ap}
use Rattle.std.specs.List.{list_all}
use Rattle.std.proofs.lemmas.Bool.{true≢false}
use Rattle.metric_combinations.specs.Restrictions.{restricted}

pub restricted-all : (kept : List Bool) (set : List ℕ) → list_all (λ (flag : Bool). flag) kept ≡ true → restricted kept set ≡ set
restricted-all [] set all = refl
restricted-all (keep ∷ kept) [] all = refl
restricted-all (true ∷ kept) (x ∷ set) all = ap (λ (rest : List ℕ). x ∷ rest) (restricted-all kept set all)
restricted-all (false ∷ kept) (x ∷ set) all = absurd (true≢false (sym all))
