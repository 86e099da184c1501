-- Loops over the numbers below a bound that append to a list.
use Rattle.std.proofs.Common.{◌≡◌, ℕ, zero, suc, ◌+◌, Bool, true, false, ◌||◌, List, [], ◌∷◌, ◌++◌, Option, refl, sym, ap, ◌∙◌, append_assoc, arith}
use Rattle.std.specs.List.{cons_option, filter_map, flat_map, range_with_len}
use Rattle.std.proofs.lemmas.List.{append-nil}
use Rattle.std.proofs.lemmas.List.Concat.{flat_map-append}
use Rattle.std.proofs.lemmas.List.Elements.{filter_map-append}

-- the numbers below one more
range_more_from : (a n j : ℕ) → a + n ≡ j → range_with_len a (n + 1) ≡ range_with_len a n ++ j ∷ []
range_more_from a zero j e = let same : a ≡ j = omega arith in ap (λ x. x ∷ []) same
range_more_from a (suc n) j e =
    let longer : suc n + 1 ≡ suc (n + 1) = omega arith in
    rw longer (ap (λ xs. a ∷ xs) (range_more_from (a + 1) n j (omega arith)))

pub range_more : (n : ℕ) → range_with_len 0 (n + 1) ≡ range_with_len 0 n ++ n ∷ []
range_more n = range_more_from 0 n n (omega arith)

-- two appends in a row
pub append_twice : {A : Type 0} (old now next part more whole : List A) → now ≡ old ++ part → next ≡ now ++ more → whole ≡ part ++ more → next ≡ old ++ whole
append_twice old now next part more whole before after joined =
    after ∙ ap (λ xs. xs ++ more) before ∙ append_assoc old part more ∙ ap (λ xs. old ++ xs) (sym joined)

-- one number more in a loop
flat_map_more : {A : Type 0} (f : ℕ → List A) (n : ℕ) → flat_map f (range_with_len 0 (n + 1)) ≡ flat_map f (range_with_len 0 n) ++ f n
flat_map_more f n =
    ap (flat_map f) (range_more n) ∙ flat_map-append f (range_with_len 0 n) (n ∷ []) ∙ ap (λ xs. flat_map f (range_with_len 0 n) ++ xs) (append-nil (f n))

pub flat_map_turn : {A : Type 0} (f : ℕ → List A) (n : ℕ) (old now next : List A) → now ≡ old ++ flat_map f (range_with_len 0 n) → next ≡ now ++ f n → next ≡ old ++ flat_map f (range_with_len 0 (n + 1))
flat_map_turn f n old now next before after = append_twice old now next _ (f n) _ before after (flat_map_more f n)

pub filter_map_more : {A : Type 0} (h : ℕ → Option A) (n : ℕ) → filter_map h (range_with_len 0 (n + 1)) ≡ filter_map h (range_with_len 0 n) ++ cons_option (h n) []
filter_map_more h n = ap (filter_map h) (range_more n) ∙ filter_map-append h (range_with_len 0 n) (n ∷ [])

pub or_false : (b : Bool) → (b || false) ≡ b
or_false true = refl
or_false false = refl

-- one number more that gives something, or nothing
pub filter_map_turn : {A : Type 0} (h : ℕ → Option A) (n : ℕ) (old now next : List A) → now ≡ old ++ filter_map h (range_with_len 0 n)
    → next ≡ now ++ cons_option (h n) [] → next ≡ old ++ filter_map h (range_with_len 0 (n + 1))
filter_map_turn h n old now next before after = append_twice old now next _ (cons_option (h n) []) _ before after (filter_map_more h n)
