-- Laws of places in lists.
use Rattle.std.proofs.Common.{◌≡◌, ℕ, ◌+◌, Bool, true, false, cond, List, [], ◌∷◌, ◌++◌, length}
use Rattle.std.proofs.Common.{Option, Some, None, refl, ap, subst, arith, ◌<◌}
use Rattle.std.specs.List.{position_from}

-- the first, or else the second
abbrev pub or_else : Option ℕ → Option ℕ → Option ℕ
or_else (Some p) q = Some p
or_else None q = q

-- the first place in a list with one more element at the end
pub position_from-push : {X : Type 0} (test : X → Bool) (i : ℕ) (xs : List X) (y : X)
    → position_from test i (xs ++ y ∷ [])
    ≡ or_else (position_from test i xs) (cond (test y) (Some (i + length xs)) None)
position_from-push test i [] y = by (test y)
  where
    by : (b : Bool) → cond b (Some i) None ≡ cond b (Some (i + 0)) None
    by true = ap Some (omega arith)
    by false = refl
position_from-push test i (x ∷ xs) y = by (test x) (position_from-push test (i + 1) xs y)
  where
    far : i + 1 + length xs ≡ i + length (x ∷ xs)
    far = omega arith

    by : (b : Bool) → position_from test (i + 1) (xs ++ y ∷ [])
        ≡ or_else (position_from test (i + 1) xs) (cond (test y) (Some (i + 1 + length xs)) None)
        → cond b (Some i) (position_from test (i + 1) (xs ++ y ∷ []))
        ≡ or_else (cond b (Some i) (position_from test (i + 1) xs))
        (cond (test y) (Some (i + length (x ∷ xs))) None)
    by true e = refl
    by false e =
        subst (λ (n : ℕ). position_from test (i + 1) (xs ++ y ∷ [])
        ≡ or_else (position_from test (i + 1) xs) (cond (test y) (Some n) None)) far e

-- a place is in the list
pub position_from-within : {X : Type 0} (test : X → Bool) (i : ℕ) (xs : List X) (p : ℕ)
    → position_from test i xs ≡ Some p → p < i + length xs
position_from-within test i [] p e = absurd cc
position_from-within test i (x ∷ xs) p e =
    by (test x) e (λ e1. position_from-within test (i + 1) xs p e1)
  where
    by : (b : Bool) → cond b (Some i) (position_from test (i + 1) xs) ≡ Some p
        → (position_from test (i + 1) xs ≡ Some p → p < i + 1 + length xs) → p < i + length (x ∷ xs)
    by true e1 later = let same : i ≡ p = cc in omega arith
    by false e1 later = let within = later e1 in omega arith
