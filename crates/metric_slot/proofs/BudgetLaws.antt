-- How far the values of recordings within the budgets and the spare are above the least.
use Rattle.std.proofs.Common.{◌≡◌, ℕ, zero, suc, ◌+◌, ◌*◌, ◌^◌, ◌<◌, ◌≤◌, ℤ, pos, negsuc, ◌-ℤ◌, ◌*ℤ◌, ◌≤ℤ◌, ◌<ℤ◌, true, List, [], ◌∷◌, refl, arith}
use Rattle.std.specs.Prelude.{slice_index, sum, unsigned_abs}
use Rattle.std.proofs.lemmas.Bool.Decides.{nat_tests}
use Rattle.std.proofs.lemmas.Int.{ints}
use Rattle.std.proofs.lemmas.List.Sums.{sum_by-cons}
use Rattle.std.proofs.lemmas.Nat.{mul-le}
use Rattle.metric_bounds.specs.Amounts.{amount_with}
use Rattle.metric_facts.specs.declared.facts.Facts.{Facts}
use Rattle.metric_facts.specs.Facts.{in_bounds}
use Rattle.metric_safety.specs.SafeFacts.{IsSafeFacts, total}

sum-cons : (x : ℕ) (xs : List ℕ) → sum (x ∷ xs) ≡ x + sum xs
sum-cons x xs = sum_by-cons (λ n. n) x xs

pub element_le : (xs : List ℕ) (i : ℕ) → slice_index xs i ≤ sum xs
element_le [] i = omega arith
element_le (x ∷ xs) zero = omega (arith, sum-cons x xs)
element_le (x ∷ xs) (suc i) = omega (arith, sum-cons x xs, element_le xs i)

-- ---- amounts

same_number : (n : ℕ) → n ≤ n
same_number n = omega arith

far : (lo hi value : ℤ) → lo ≤ℤ value → value ≤ℤ hi → pos (unsigned_abs (value -ℤ lo)) ≤ℤ (hi -ℤ lo)
far lo hi value low high = at (value -ℤ lo) refl
  where
    at : (d : ℤ) → (value -ℤ lo) ≡ d → pos (unsigned_abs d) ≤ℤ (hi -ℤ lo)
    at (pos n) e = omega (arith, ints)
    at (negsuc n) e = absurd (omega (arith, ints))

-- one value more, of a range of this width
amount_more : (count most : ℕ) (width : ℤ) (amount step : ℕ) → count + 1 ≤ most → pos amount ≤ℤ (pos count *ℤ width) → pos step ≤ℤ width
    → (pos most *ℤ width) <ℤ pos (2 ^ 64) → amount + step < 2 ^ 64
amount_more count most (pos w) amount step room before one all =
    let grows : (count + 1) * w ≤ most * w = mul-le (count + 1) w most w room (same_number w) in
    let split : (count + 1) * w ≡ count * w + w = omega arith in
    omega (arith, ints)
amount_more count most (negsuc w) amount step room before one all = absurd (omega (arith, ints))

pub amount_room : (facts : Facts) (count amount : ℕ) (value : ℤ) → IsSafeFacts facts → count + 1 ≤ total facts → pos amount ≤ℤ amount_with count facts.lo facts.hi
    → in_bounds facts value ≡ true → amount + unsigned_abs (value -ℤ facts.lo) < 2 ^ 64
amount_room facts count amount value safe room before within =
    amount_more count (total facts) (facts.hi -ℤ facts.lo) amount (unsigned_abs (value -ℤ facts.lo)) room before (far facts.lo facts.hi value least most) safe.amounts
  where
    least : facts.lo ≤ℤ value
    least = grind (arith, ints, nat_tests)

    most : value ≤ℤ facts.hi
    most = grind (arith, ints, nat_tests)
