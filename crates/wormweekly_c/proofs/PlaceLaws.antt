-- What was made is put into the first places, the last of it first.
use Rattle.std.proofs.Common.{◌≡◌, ◌≤◌, ℕ, zero, suc, ◌+◌, List, [], ◌∷◌, ◌++◌, Some, length, take, drop, refl, sym, ap, ◌∙◌, arith}
use Rattle.std.specs.Prelude.{slice_get, slice_set}
use Rattle.std.proofs.lemmas.List.{length_push}

-- those from a place on are put, and those before stay as they were
abbrev pub placed : {T : Type 0} → ℕ → List T → List T → List T
placed n made places = take n places ++ (drop n made ++ drop (length made) places)

head_of : {T : Type 0} (x y : T) → Some x ≡ Some y → x ≡ y
head_of x y same = cc

-- one place more
pub placed_one : {T : Type 0} (n : ℕ) (made places : List T) (one : T) → slice_get made n ≡ Some one → length made ≤ length places
    → slice_set (placed (suc n) made places) n one ≡ placed n made places
placed_one n [] places one found room = absurd cc
placed_one n (m ∷ made) [] one found room = absurd (omega arith)
placed_one zero (m ∷ made) (p ∷ places) one found room = ap (λ (x : _). x ∷ (made ++ drop (length made) places)) (sym (head_of m one found))
placed_one (suc n) (m ∷ made) (p ∷ places) one found room =
    ap (λ (rest : List _). p ∷ rest) (placed_one n made places one found (omega arith))

front_of : {T : Type 0} (next : List T) (one : T) (made : List T) → next ++ one ∷ [] ≡ take (suc (length next)) made
    → (next ≡ take (length next) made) × (slice_get made (length next) ≡ Some one)
front_of [] one [] is = absurd cc
front_of [] one (m ∷ made) is = (refl, ap (λ (x : _). Some x) (sym (head_same one m [] [] is)))
  where
    head_same : {T : Type 0} (x y : T) (xs ys : List T) → x ∷ xs ≡ y ∷ ys → x ≡ y
    head_same x y xs ys same = cc
front_of (x ∷ next) one [] is = absurd cc
front_of (x ∷ next) one (m ∷ made) is =
    let rest = front_of next one made (tail_same x m (next ++ one ∷ []) (take (suc (length next)) made) is) in
    (head_is x m next (take (length next) made) (next ++ one ∷ []) (take (suc (length next)) made) is rest.0, rest.1)
  where
    tail_same : {T : Type 0} (x y : T) (xs ys : List T) → x ∷ xs ≡ y ∷ ys → xs ≡ ys
    tail_same x y xs ys same = cc

    head_is : {T : Type 0} (x y : T) (xs ys all others : List T) → x ∷ all ≡ y ∷ others → xs ≡ ys → x ∷ xs ≡ y ∷ ys
    head_is x y xs ys all others same rest = cc

-- the last of those that are left is put
pub place_step : {T : Type 0} (made places left next now : List T) (one : T) → left ≡ next ++ one ∷ [] → left ≡ take (length left) made
    → length made ≤ length places → now ≡ placed (length left) made places
    → (next ≡ take (length next) made) × (slice_set now (length next) one ≡ placed (length next) made places)
place_step made places left next now one split kept room put =
    let long : length left ≡ suc (length next) = omega (arith, ap length split, length_push next one) in
    let parts = front_of next one made (sym split ∙ kept ∙ ap (λ (k : ℕ). take k made) long) in (
      parts.0,
      ap (λ (all : List _). slice_set all (length next) one) put
          ∙ ap (λ (k : ℕ). slice_set (placed k made places) (length next) one) long
          ∙ placed_one (length next) made places one parts.1 room,
    )
