-- A block of fewer than 128 bytes is closed by one byte, and one of fewer than 128 times as many by two.
use Rattle.std.proofs.Common.{◌≡◌, ℕ, ◌+◌, ◌-◌, ◌/◌, ◌%◌, ◌<◌, ◌≤◌, suc, List, [], ◌∷◌, ◌++◌, refl, sym, length}
use Rattle.std.proofs.Common.{append_assoc, arith, drop, false, true, nat_lt, slice_set, take}
use Rattle.std.proofs.lemmas.List.{drop_at, length-append, length-drop, length-take-le, set_split, take_at}
use Rattle.std.specs.List.{insert}
use Rattle.std.proofs.lemmas.Bool.Decides.{nat_tests}
use Rattle.metric_wire.specs.Wire.{base_128, varint}
use Rattle.metric_wire.specs.Closing.{closed}

is_digit : (number : ℕ) → number < 128 → nat_lt number 128 ≡ true
is_digit number h = grind (arith, nat_tests)

one_digit : (number : ℕ) → number < 128 → varint number ≡ number ∷ []
unfolding varint base_128
one_digit number h = rw (is_digit number h) refl

after : (all place : ℕ) → all - suc place ≡ all - place - 1
after all place = omega arith

pub short_closed : (bytes : List ℕ) (place : ℕ) → place < length bytes → length bytes - place - 1 < 128
    → slice_set bytes place (length bytes - place - 1) ≡ closed place bytes
unfolding closed
short_closed bytes place h few =
    rw (
      length-drop (suc place) bytes,
      after (length bytes) place,
      one_digit (length bytes - place - 1) few,
    ) (set_split bytes place (length bytes - place - 1) h)

is_no_digit : (number : ℕ) → 128 ≤ number → nat_lt number 128 ≡ false
is_no_digit number h = grind (arith, nat_tests)

two_digits : (number : ℕ) → 128 ≤ number → number < 16384 → varint number ≡ (128 + number % 128) ∷ (number / 128) ∷ []
unfolding varint base_128
two_digits number many few = rw (is_no_digit number many, is_digit (number / 128) (omega arith)) refl

grown : (front back : List ℕ) (digit more place : ℕ) → length front ≡ place
    → insert (front ++ digit ∷ back) (suc place) more ≡ front ++ digit ∷ more ∷ back
grown front back digit more place h =
    let begin : List ℕ = front ++ digit ∷ [] in
    let one_longer : length begin ≡ suc place = rw (length-append front (digit ∷ []), h) (omega arith) in
    rw (
      sym (append_assoc front (digit ∷ []) back),
      take_at begin back (suc place) one_longer,
      drop_at begin back (suc place) one_longer,
      append_assoc front (digit ∷ []) (more ∷ back),
    ) refl

pub middle_closed : (bytes : List ℕ) (place : ℕ) → place < length bytes
    → 128 ≤ length bytes - place - 1 → length bytes - place - 1 < 16384
    → insert (slice_set bytes place (128 + (length bytes - place - 1) % 128)) (place + 1) ((length bytes - place - 1) / 128)
    ≡ closed place bytes
unfolding closed
middle_closed bytes place h many few =
    let count : ℕ = length bytes - place - 1 in
    let next : place + 1 ≡ suc place = omega arith in
    rw (
      next,
      length-drop (suc place) bytes,
      after (length bytes) place,
      two_digits count many few,
      set_split bytes place (128 + count % 128) h,
    ) (grown (take place bytes) (drop (suc place) bytes) (128 + count % 128) (count / 128) place
    (length-take-le place bytes (omega arith)))
