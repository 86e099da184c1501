-- Loops over the numbers below a bound that append to a list.
use Rattle.std.proofs.Common.{◌≡◌, ℕ, zero, suc, ◌+◌, List, [], ◌∷◌, ◌++◌, sym, ap, ◌∙◌, arith}
use Rattle.std.specs.List.{flat_map, range_with_len}
use Rattle.std.proofs.lemmas.List.{append-nil, flat_map_more}

-- the numbers below one more
range_more_from : (a n j : ℕ) → a + n ≡ j → range_with_len a (n + 1) ≡ range_with_len a n ++ j ∷ []
range_more_from a zero j e = let same : a ≡ j = omega arith in ap (λ x. x ∷ []) same
range_more_from a (suc n) j e =
    let longer : suc n + 1 ≡ suc (n + 1) = omega arith in
    rw longer (ap (λ xs. a ∷ xs) (range_more_from (a + 1) n j (omega arith)))

pub range_more : (n : ℕ) → range_with_len 0 (n + 1) ≡ range_with_len 0 n ++ n ∷ []
range_more n = range_more_from 0 n n (omega arith)

-- one number more
pub turn : {A : Type 0} (f : ℕ → List A) (n : ℕ) (old now next : List A) → now ≡ old ++ flat_map f (range_with_len 0 n) → next ≡ now ++ f n
    → next ≡ old ++ flat_map f (range_with_len 0 (n + 1))
turn f n old now next before after =
    after ∙ ap (λ xs. xs ++ f n) before ∙ flat_map_more f old (range_with_len 0 n) n ∙ ap (λ ns. old ++ flat_map f ns) (sym (range_more n))

-- one that gives nothing
pub still : {A : Type 0} (f : ℕ → List A) (n : ℕ) (old now : List A) → now ≡ old ++ flat_map f (range_with_len 0 n) → f n ≡ []
    → now ≡ old ++ flat_map f (range_with_len 0 (n + 1))
still f n old now before none = turn f n old now now before (sym (append-nil now) ∙ ap (λ xs. now ++ xs) (sym none))
