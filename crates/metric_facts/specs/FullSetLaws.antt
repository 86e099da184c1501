-- What the entries of full sets come to.
use Rattle.std.proofs.Common.{◌≡◌, ℕ, true, List, [], ◌∷◌, length, refl, sym, ◌∙◌, arith}
use Rattle.std.specs.Prelude.{◌==◌}
use Rattle.std.specs.List.{list_all}
use Rattle.std.proofs.lemmas.Bool.{and_parts, eqb-true}

-- zeros of one length are one list
pub zeros_same : (xs ys : List ℕ) → list_all (λ entry. entry == 0) xs ≡ true
    → list_all (λ entry. entry == 0) ys ≡ true → length xs ≡ length ys → xs ≡ ys
zeros_same [] [] p q l = refl
zeros_same [] (y ∷ ys) p q l = absurd (omega arith)
zeros_same (x ∷ xs) [] p q l = absurd (omega arith)
zeros_same (x ∷ xs) (y ∷ ys) p q l =
    let a = and_parts (x == 0) (list_all (λ entry. entry == 0) xs) p in
    let b = and_parts (y == 0) (list_all (λ entry. entry == 0) ys) q in
    let heads : x ≡ y = eqb-true x 0 a.0 ∙ sym (eqb-true y 0 b.0) in
    let tails : xs ≡ ys = zeros_same xs ys a.1 b.1 (omega arith) in
    cc
