-- Lemmas on single lines and on the contents at the front of some lines.
use Rattle.std.proofs.Common.{◌≡◌, ℕ, ◌+◌, ◌≤◌, Bool, true, false, cond, not, nat_lt, List, [], ◌∷◌, length, None, Some, Result, Ok, Err, refl, sym, ap, ◌∙◌, arith}
use Rattle.std.specs.Prelude.{MatchResult, is_ok, unwrap_or, map, position}
use Rattle.std.specs.List.{prefix_len}
use Rattle.std.specs.Str.{IsUtf8, is_utf8}
use Rattle.std.specs.Borrow.{Bor}
use Rattle.std.proofs.lemmas.Str.{is_utf8-from_IsUtf8, IsUtf8-from_is_utf8}
use Rattle.std.proofs.lemmas.List.Sums.{prefix_len-le-length}
use Rattle.std.proofs.lemmas.Bool.Decides.{nat_tests}

not_true : (b : Bool) → (b ≡ true → ⊥) → false ≡ b
not_true true n = absurd (n refl)
not_true false n = refl

-- what `from_utf8` answers is whether the bytes are UTF-8
pub is_ok_is_utf8 : {X E : Type 0} (P : X → Type 0) (Q : E → Type 0) (r : Result X E) (bytes : List ℕ)
    → MatchResult r (λ s. P s × IsUtf8 bytes) (λ e. (IsUtf8 bytes → ⊥) × Q e) → is_ok r ≡ is_utf8 bytes
is_ok_is_utf8 P Q (Ok s) bytes h = sym (is_utf8-from_IsUtf8 bytes h.1)
is_ok_is_utf8 P Q (Err e) bytes h = not_true (is_utf8 bytes) (λ t. h.0 (IsUtf8-from_is_utf8 bytes t))

place_or_length : (n len : ℕ) → n ≤ len → unwrap_or (cond (nat_lt n len) (Some n) None) len ≡ n
place_or_length n len h = grind (arith, nat_tests)

-- the place of the first element that passes, or the length
pub position_or_length : {X : Type 0} (p : X → Bool) (xs : List X) → unwrap_or (position p xs) (length xs) ≡ prefix_len (λ x. not (p x)) xs
position_or_length p xs = place_or_length (prefix_len (λ x. not (p x)) xs) (length xs) (prefix_len-le-length (λ x. not (p x)) xs)

pub position_within : {X : Type 0} (p : X → Bool) (xs : List X) (n : ℕ) → n ≡ unwrap_or (position p xs) (length xs) → n ≤ length xs
position_within p xs n e = omega (arith, e ∙ position_or_length p xs, prefix_len-le-length (λ x. not (p x)) xs)

not_not : (b : Bool) → not (not b) ≡ b
not_not true = refl
not_not false = refl

-- a test of the values that references point to
pub prefix_len-values : {X : Type 0} (p : X → Bool) (xs : List (Bor X)) → prefix_len (λ x. not (not (p x.now))) xs ≡ prefix_len p (map (λ x. x.now) xs)
prefix_len-values p [] = refl
prefix_len-values p (x ∷ xs) =
    ap (λ b. cond b (1 + prefix_len (λ y. not (not (p y.now))) xs) 0) (not_not (p x.now)) ∙ ap (λ n. cond (p x.now) (1 + n) 0) (prefix_len-values p xs)
