-- What holds of each element holds of one more.
use Rattle.std.proofs.Common.{◌≡◌, ℕ, zero, suc, List, [], ◌∷◌, ◌++◌, Some, length, subst}
use Rattle.std.specs.Prelude.{slice_get}

same_Some : {X : Type 0} (x y : X) → Some x ≡ Some y → x ≡ y
same_Some x y same = cc

pub each_push : {X : Type 0} (P : ℕ → X → Type 0) (xs : List X) (x : X) → ((i : ℕ) (y : X) → slice_get xs i ≡ Some y → P i y) → P (length xs) x
    → (i : ℕ) (y : X) → slice_get (xs ++ x ∷ []) i ≡ Some y → P i y
each_push P [] x each last zero y found = subst (P 0) (same_Some x y found) last
each_push P [] x each last (suc i) y found = absurd cc
each_push P (w ∷ xs) x each last zero y found = each 0 y found
each_push P (w ∷ xs) x each last (suc i) y found = each_push (λ n. P (suc n)) xs x (λ j z f. each (suc j) z f) last i y found
