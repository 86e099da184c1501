-- Budgets with one recording more, and with a grant.
use Rattle.std.proofs.Common.{◌≡◌, ◌≢◌, ℕ, ◌+◌, ◌<◌, ◌≤◌, Bool, true, false, List, length, refl, subst, arith}
use Rattle.std.specs.Prelude.{◌==◌, slice_index, slice_set, sum}
use Rattle.std.proofs.lemmas.Bool.Decides.{nat_tests}
use Rattle.std.proofs.lemmas.List.{get_or-set_same, get_or-set_other}
use Rattle.std.proofs.lemmas.List.Sums.{sum_by-set}

-- one element raised by so much
pub sum_raised : (xs : List ℕ) (i amount : ℕ) → i < length xs → sum (slice_set xs i (slice_index xs i + amount)) ≡ sum xs + amount
sum_raised xs i amount below = omega (arith, sum_by-set (λ n. n) xs i (slice_index xs i + amount) 0 below)

-- one raised by one stays within what is more
pub raised_within : (xs : List ℕ) (most : ℕ → ℕ) (i : ℕ) → i < length xs → ((j : ℕ) → slice_index xs j ≤ most j) → slice_index xs i < most i
    → (j : ℕ) → slice_index (slice_set xs i (slice_index xs i + 1)) j ≤ most j
raised_within xs most i below within room j = at (i == j) refl
  where
    at : (b : Bool) → (i == j) ≡ b → slice_index (slice_set xs i (slice_index xs i + 1)) j ≤ most j
    at true e =
        let same : i ≡ j = grind (arith, nat_tests) in
        subst (λ (k : ℕ). slice_index (slice_set xs i (slice_index xs i + 1)) k ≤ most k) same (omega (arith, get_or-set_same xs i (slice_index xs i + 1) 0 below))
    at false e =
        let other : j ≢ i = grind (arith, nat_tests) in
        omega (arith, get_or-set_other xs i j (slice_index xs i + 1) 0 other, within j)

-- no element is less where one is raised
pub raised_more : (xs : List ℕ) (i amount : ℕ) → i < length xs → (j : ℕ) → slice_index xs j ≤ slice_index (slice_set xs i (slice_index xs i + amount)) j
raised_more xs i amount below j = at (i == j) refl
  where
    at : (b : Bool) → (i == j) ≡ b → slice_index xs j ≤ slice_index (slice_set xs i (slice_index xs i + amount)) j
    at true e =
        let same : i ≡ j = grind (arith, nat_tests) in
        subst (λ (k : ℕ). slice_index xs k ≤ slice_index (slice_set xs i (slice_index xs i + amount)) k) same (omega (arith, get_or-set_same xs i (slice_index xs i + amount) 0 below))
    at false e =
        let other : j ≢ i = grind (arith, nat_tests) in
        omega (arith, get_or-set_other xs i j (slice_index xs i + amount) 0 other)
