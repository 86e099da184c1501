-- What is left of a text from one place to the next, and lists of names that references point to.
use denote.Ref.{Bor}
use Rattle.std.proofs.Common.{◌≡◌, ℕ, zero, suc, ◌+◌, ◌<◌, ◌||◌, Bool, true, false, cond, List, [], ◌∷◌, length, drop, map, nat_le, refl, ap, sym, ◌∙◌, arith}
use Rattle.std.specs.List.{list_any}
use Rattle.metric_messages.specs.Standing.{commas, has_word, is_listed}

-- where a name does not stand, what follows the byte tells
pub listed_later : (name : List ℕ) (number : ℕ) (bytes : List ℕ) (place : ℕ) → place < length bytes
    → has_word name (drop place bytes) ≡ false
    → is_listed name number (drop (place + 1) bytes) ≡ is_listed name number (drop place bytes)
listed_later name number [] place within absent = absurd (omega arith)
listed_later name number (byte ∷ bytes) zero within absent =
    sym (ap (λ (b : Bool). cond b (nat_le number (commas (byte ∷ bytes))) (is_listed name number bytes)) absent)
listed_later name number (byte ∷ bytes) (suc place) within absent =
    let longer : suc place + 1 ≡ suc (place + 1) = omega arith in
    rw longer (listed_later name number bytes place (omega arith) absent)

-- a test of what references point to
pub any_pointed : (passes : List ℕ → Bool) (names : List (Bor (List ℕ)))
    → list_any (λ name. passes name.now) names ≡ list_any passes (map (λ name. name.now) names)
any_pointed passes [] = refl
any_pointed passes (name ∷ names) = ap (λ (b : Bool). passes name.now || b) (any_pointed passes names)
