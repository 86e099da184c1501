-- How many digits a number needs, and what they are read as.
use Rattle.std.proofs.Common.{◌≡◌, ℕ, zero, suc, ◌+◌, ◌-◌, ◌*◌, ◌/◌, ◌%◌, ◌^◌, ◌<◌, ◌≤◌, true, false, nat_lt, List, [], ◌∷◌, ◌++◌, Some, refl, sym, ap, ◌∙◌, arith, inl, inr, append_assoc}
use Rattle.std.specs.Prelude.{if◌then◌else◌}
use Rattle.std.proofs.lemmas.Bool.{cases_lt}
use Rattle.std.proofs.lemmas.Bool.Decides.{nat_tests}
use Rattle.metric_wire.specs.Wire.{base_128, varint}
use Rattle.metric_wire.specs.Reading.{varint_in}

small : (n : ℕ) → n < 128 → nat_lt n 128 ≡ true
small n h = grind (arith, nat_tests)

large : (n : ℕ) → 128 ≤ n → nat_lt n 128 ≡ false
large n h = grind (arith, nat_tests)

fewer : (k n : ℕ) → n < 128 ^ suc (suc k) → n / 128 < 128 ^ suc k
fewer k n h = omega (arith)

enough : (k n : ℕ) → n < 128 ^ suc k → base_128 k n ≡ base_128 (suc k) n
unfolding base_128
enough zero n h = rw (small n (omega arith)) refl
enough (suc k) n h =
    ap (λ (more : List ℕ). if nat_lt n 128 then n ∷ [] else (128 + n % 128) ∷ more)
    (enough k (n / 128) (fewer k n h))

-- a number of one digit
pub varint_last : (n : ℕ) → n < 128 → varint n ≡ n ∷ []
unfolding varint base_128
varint_last n h = rw (small n h) refl

-- a number of more digits
pub varint_step : (n : ℕ) → n < 2 ^ 64 → 128 ≤ n
    → varint n ≡ (128 + n % 128) ∷ varint (n / 128)
unfolding varint base_128
varint_step n h big = rw (large n big) (ap (λ (more : List ℕ). (128 + n % 128) ∷ more) (enough 8 (n / 128) (omega arith)))

whole : (n : ℕ) → 128 + n % 128 - 128 + 128 * (n / 128) ≡ n
whole n = omega arith

base_128_read : (k n : ℕ) (rest : List ℕ) → n < 128 ^ suc k
    → varint_in (base_128 k n ++ rest) ≡ Some (n, rest)
unfolding base_128 varint_in
base_128_read zero n rest h = rw (small n (omega arith)) refl
base_128_read (suc k) n rest h =
    elim (cases_lt n 128) [
      | inl below ↦ rw (small n below) (rw (small n below) refl)
      | inr above ↦
          rw (large n above)
          (rw (large (128 + n % 128) (omega arith), base_128_read k (n / 128) rest (fewer k n h))
          (ap (λ (m : ℕ). Some (m, rest)) (whole n)))
    ]

pub varint_read : (n : ℕ) (rest : List ℕ) → n < 2 ^ 64 → varint_in (varint n ++ rest) ≡ Some (n, rest)
unfolding varint
varint_read n rest h = base_128_read 9 n rest (omega arith)

-- one digit more is written
pub digit_written : (before out now : List ℕ) (n rest : ℕ)
    → now ≡ out ++ (128 + rest % 128) ∷ [] → out ++ varint rest ≡ before ++ varint n
    → rest < 2 ^ 64 → 128 ≤ rest → now ++ varint (rest / 128) ≡ before ++ varint n
digit_written before out now n rest e all small big =
    rw (e, append_assoc out ((128 + rest % 128) ∷ []) (varint (rest / 128)), ← varint_step rest small big) all

-- the last digit is written
pub last_written : (before out now : List ℕ) (n rest : ℕ)
    → now ≡ out ++ rest ∷ [] → out ++ varint rest ≡ before ++ varint n → rest < 128
    → now ≡ before ++ varint n
last_written before out now n rest e all below = e ∙ ap (λ (xs : List ℕ). out ++ xs) (sym (varint_last rest below)) ∙ all
