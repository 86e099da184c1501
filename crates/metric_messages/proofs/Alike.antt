-- The letters of two words, place by place.
use Rattle.std.proofs.Common.{◌≡◌, ◌≢◌, ℕ, zero, suc, ◌+◌, ◌-◌, ◌<◌, ◌≤◌, nat_eq, Bool, cond, List, [], ◌∷◌, length, reverse, min, drop, get_or, add-one, drop-cons, refl, ap, sym, ◌∙◌, arith}
use Rattle.std.proofs.lemmas.Bool.{eq-eqb, ne_eqb}
use Rattle.std.proofs.lemmas.List.{drop_all, get_or-reverse, length-reverse}
use Rattle.metric_messages.specs.Near.{alike}

drop_at : (xs : List ℕ) (n : ℕ) → n < length xs → drop n xs ≡ get_or xs n 0 ∷ drop (n + 1) xs
drop_at xs n within = drop-cons xs n 0 within ∙ (λ j. get_or xs n 0 ∷ drop (sym (add-one n) j) xs)

-- what is alike from a place on
alike_at : (xs ys : List ℕ) (n : ℕ) → n < length xs → n < length ys
    → alike (drop n xs) (drop n ys) ≡ cond (nat_eq (get_or xs n 0) (get_or ys n 0)) (1 + alike (drop (n + 1) xs) (drop (n + 1) ys)) 0
alike_at xs ys n p q = rw (drop_at xs n p, drop_at ys n q) refl

alike_same : (xs ys : List ℕ) (n : ℕ) → n < length xs → n < length ys → get_or xs n 0 ≡ get_or ys n 0
    → alike (drop n xs) (drop n ys) ≡ 1 + alike (drop (n + 1) xs) (drop (n + 1) ys)
alike_same xs ys n p q same =
    alike_at xs ys n p q ∙ ap (λ (b : Bool). cond b (1 + alike (drop (n + 1) xs) (drop (n + 1) ys)) 0) (eq-eqb (get_or xs n 0) (get_or ys n 0) same)

alike_other : (xs ys : List ℕ) (n : ℕ) → n < length xs → n < length ys → get_or xs n 0 ≢ get_or ys n 0 → alike (drop n xs) (drop n ys) ≡ 0
alike_other xs ys n p q other =
    alike_at xs ys n p q ∙ ap (λ (b : Bool). cond b (1 + alike (drop (n + 1) xs) (drop (n + 1) ys)) 0) (ne_eqb (get_or xs n 0) (get_or ys n 0) other)

-- the same of the letters from behind
pub behind_same : (xs ys : List ℕ) (n : ℕ) → n < length xs → n < length ys → get_or xs (length xs - 1 - n) 0 ≡ get_or ys (length ys - 1 - n) 0
    → alike (drop n (reverse xs)) (drop n (reverse ys)) ≡ 1 + alike (drop (n + 1) (reverse xs)) (drop (n + 1) (reverse ys))
behind_same xs ys n p q same =
    alike_same (reverse xs) (reverse ys) n (omega (arith, p, length-reverse xs)) (omega (arith, q, length-reverse ys))
    (get_or-reverse xs n 0 p ∙ same ∙ sym (get_or-reverse ys n 0 q))

pub behind_other : (xs ys : List ℕ) (n : ℕ) → n < length xs → n < length ys → get_or xs (length xs - 1 - n) 0 ≢ get_or ys (length ys - 1 - n) 0
    → alike (drop n (reverse xs)) (drop n (reverse ys)) ≡ 0
behind_other xs ys n p q other =
    alike_other (reverse xs) (reverse ys) n (omega (arith, p, length-reverse xs)) (omega (arith, q, length-reverse ys))
    (λ same. other (sym (get_or-reverse xs n 0 p) ∙ same ∙ get_or-reverse ys n 0 q))

none_alike : (xs : List ℕ) → alike xs [] ≡ 0
none_alike [] = refl
none_alike (x ∷ xs) = refl

-- nothing is alike where one of the words has ended
pub ended : (xs ys : List ℕ) (n : ℕ) → min (length xs) (length ys) ≤ n → alike (drop n xs) (drop n ys) ≡ 0
ended [] ys n p = rw (drop_all {X = ℕ} n [] (omega arith)) refl
ended (x ∷ xs) [] n p = rw (drop_all {X = ℕ} n [] (omega arith)) (none_alike (drop n (x ∷ xs)))
ended (x ∷ xs) (y ∷ ys) zero p = absurd (omega (arith, p))
ended (x ∷ xs) (y ∷ ys) (suc n) p = ended xs ys n (omega (arith, p))

pub behind_ended : (xs ys : List ℕ) (n : ℕ) → min (length xs) (length ys) ≤ n → alike (drop n (reverse xs)) (drop n (reverse ys)) ≡ 0
behind_ended xs ys n p = ended (reverse xs) (reverse ys) n (omega (arith, p, length-reverse xs, length-reverse ys))
