-- Bytes that are no UTF-8, and the text that stands first.
use Rattle.std.proofs.Common.{◌≡◌, ◌≤◌, ℕ, Bool, true, false, ◌&&◌, List, Option, Some, None, length, take, drop, refl, sym, ap, ◌∙◌, arith}
use Rattle.std.specs.Prelude.{nat_le, if◌then◌else◌}
use Rattle.std.specs.Str.{is_utf8, IsUtf8}
use Rattle.std.proofs.lemmas.Bool.{and_from, and_left, and_right}
use Rattle.std.proofs.lemmas.Bool.Decides.{nat_tests}
use Rattle.std.proofs.lemmas.Str.{IsUtf8-from_is_utf8, is_utf8-from_IsUtf8}
use Rattle.wormweekly_c.specs.Attributes.{text_first}

pub not_utf8 : (bytes : List ℕ) → (IsUtf8 bytes → ⊥) → is_utf8 bytes ≡ false
not_utf8 bytes none = flag (is_utf8 bytes) refl
  where
    flag : (b : Bool) → is_utf8 bytes ≡ b → is_utf8 bytes ≡ false
    flag true is = absurd (none (IsUtf8-from_is_utf8 bytes is))
    flag false is = is

-- where both tests pass
abbrev chosen : (count : ℕ) (texts : List ℕ) (flag : Bool) → Option (List ℕ × List ℕ)
chosen count texts flag = if flag then Some (take count texts, drop count texts) else None

pub text_there : (count : ℕ) (texts text rest front : List ℕ) → count ≤ length texts → front ≡ take count texts → rest ≡ drop count texts → text ≡ front → IsUtf8 front
    → Some (text, rest) ≡ text_first count texts
text_there count texts text rest front below front_is rest_is text_is utf8 =
    let there : nat_le count (length texts) ≡ true = grind (arith, nat_tests, below) in
    let flag : is_utf8 (take count texts) ≡ true = ap (λ (bytes : List ℕ). is_utf8 bytes) (sym front_is) ∙ is_utf8-from_IsUtf8 front utf8 in
    (λ i. Some ((text_is ∙ front_is) i, rest_is i))
    ∙ ap (chosen count texts) (sym (and_from (nat_le count (length texts)) (is_utf8 (take count texts)) there flag))

pub text_none : (count : ℕ) (texts front : List ℕ) → front ≡ take count texts → (IsUtf8 front → ⊥) → None ≡ text_first count texts
text_none count texts front front_is none =
    let flag : is_utf8 (take count texts) ≡ false = ap (λ (bytes : List ℕ). is_utf8 bytes) (sym front_is) ∙ not_utf8 front none in
    ap (chosen count texts) (sym (and_right (nat_le count (length texts)) (is_utf8 (take count texts)) flag))
