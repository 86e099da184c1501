-- Words of a text's first and last bytes stand for the text.
use Rattle.std.proofs.Common.{◌≡◌, ℕ, ◌+◌, ◌-◌, ◌<◌, ◌≤◌, true, false, nat_le, List, [], ◌∷◌, ◌++◌, length, take, drop, get_or, w16, w32, w64, refl, sym, ap, ◌∙◌, arith, length-take, length-drop}
use Rattle.std.specs.Int.{from_le_bytes}
use Rattle.std.proofs.lemmas.Grind.{common_steps}
use Rattle.std.proofs.lemmas.List.{take-append-drop, take-append-le, get_or-drop}
use Rattle.std.proofs.lemmas.Nat.{le_bytes_2, le_bytes_4, le_bytes_8}
use Rattle.metric_contents.specs.Packed.{text_of}

-- the first and the last bytes of a list make it whole, where they meet
whole : (bs : List ℕ) (k : ℕ) → k ≤ length bs → length bs ≤ k + k → take (length bs - k) (take k bs) ++ drop (length bs - k) bs ≡ bs
whole bs k least most =
    let m = length bs - k in
    let len : length (take k bs) ≡ k = omega (arith, length-take k bs) in
    let within : m ≤ length (take k bs) = omega arith in
    let front : take m (take k bs) ≡ take m bs = sym (take-append-le m (take k bs) (drop k bs) within) ∙ ap (take m) (take-append-drop k bs) in
    ap (λ (xs : List ℕ). xs ++ drop m bs) front ∙ take-append-drop m bs

small_front : (bs : List ℕ) (k : ℕ) → ((i : ℕ) → get_or bs i 0 < 256) → (i : ℕ) → get_or (take k bs) i 0 < 256
small_front bs k small i = grind (arith, common_steps, small i)

small_back : (bs : List ℕ) (k : ℕ) → ((i : ℕ) → get_or bs i 0 < 256) → (i : ℕ) → get_or (drop k bs) i 0 < 256
small_back bs k small i = let h = small (k + i) in rw (get_or-drop k bs i 0) h

-- a text of 8 to 16 bytes
pub eights : (bs : List ℕ) (first last : ℕ) → 8 ≤ length bs → length bs ≤ 16 → ((i : ℕ) → get_or bs i 0 < 256) → first ≡ from_le_bytes w64 (take 8 bs)
    → last ≡ from_le_bytes w64 (drop (length bs - 8) bs) → text_of (record { first = first; last = last; len = length bs }) ≡ bs
unfolding text_of
eights bs first last least most small is_first is_last =
    let front = le_bytes_8 (take 8 bs) first (omega (arith, length-take 8 bs)) (small_front bs 8 small) is_first in
    let back = le_bytes_8 (drop (length bs - 8) bs) last (omega (arith, length-drop (length bs - 8) bs)) (small_back bs (length bs - 8) small) is_last in
    let test : nat_le 8 (length bs) ≡ true = grind arith in
    rw (test, front, back) (whole bs 8 least (omega arith))

-- a text of 4 to 7 bytes
pub fours : (bs : List ℕ) (first last : ℕ) → 4 ≤ length bs → length bs < 8 → ((i : ℕ) → get_or bs i 0 < 256) → first ≡ from_le_bytes w32 (take 4 bs)
    → last ≡ from_le_bytes w32 (drop (length bs - 4) bs) → text_of (record { first = first; last = last; len = length bs }) ≡ bs
unfolding text_of
fours bs first last least most small is_first is_last =
    let front = le_bytes_4 (take 4 bs) first (omega (arith, length-take 4 bs)) (small_front bs 4 small) is_first in
    let back = le_bytes_4 (drop (length bs - 4) bs) last (omega (arith, length-drop (length bs - 4) bs)) (small_back bs (length bs - 4) small) is_last in
    let few : nat_le 8 (length bs) ≡ false = grind arith in
    let test : nat_le 4 (length bs) ≡ true = grind arith in
    rw (few, test, front, back) (whole bs 4 least (omega arith))

-- a text of 2 or 3 bytes
pub twos : (bs : List ℕ) (first last : ℕ) → 2 ≤ length bs → length bs < 4 → ((i : ℕ) → get_or bs i 0 < 256) → first ≡ from_le_bytes w16 (take 2 bs)
    → last ≡ from_le_bytes w16 (drop (length bs - 2) bs) → text_of (record { first = first; last = last; len = length bs }) ≡ bs
unfolding text_of
twos bs first last least most small is_first is_last =
    let front = le_bytes_2 (take 2 bs) first (omega (arith, length-take 2 bs)) (small_front bs 2 small) is_first in
    let back = le_bytes_2 (drop (length bs - 2) bs) last (omega (arith, length-drop (length bs - 2) bs)) (small_back bs (length bs - 2) small) is_last in
    let few : nat_le 8 (length bs) ≡ false = grind arith in
    let fewer : nat_le 4 (length bs) ≡ false = grind arith in
    let test : nat_le 2 (length bs) ≡ true = grind arith in
    rw (few, fewer, test, front, back) (whole bs 2 least (omega arith))

-- a text of one byte, or none
pub ones : (bs : List ℕ) (first : ℕ) → length bs < 2 → first ≡ get_or bs 0 0 → text_of (record { first = first; last = 0; len = length bs }) ≡ bs
unfolding text_of
ones [] first few is = refl
ones (b ∷ []) first few is = rw is refl
ones (b ∷ c ∷ bs) first few is = absurd (omega arith)
