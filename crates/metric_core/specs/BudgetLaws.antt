-- How many recordings the budgets of an instrument leave, with what was granted beside them.
use Rattle.std.proofs.Common.{◌≡◌, ℕ, zero, suc, ◌+◌, ◌<◌, ◌≤◌, List, [], ◌∷◌, length, arith}
use Rattle.std.specs.Prelude.{slice_index, sum}
use Rattle.std.proofs.lemmas.List.Sums.{sum_by-cons}
use Rattle.metric_history.specs.Journals.{Standing}
use Rattle.metric_core.specs.CellAnswers.{budget_of}
use Rattle.metric_core.specs.Cells.{CellKept, CellValue}
use Rattle.metric_safety.specs.SafeFacts.{IsJournal, total}

sum-cons : (x : ℕ) (xs : List ℕ) → sum (x ∷ xs) ≡ x + sum xs
sum-cons x xs = sum_by-cons (λ n. n) x xs

-- where each element is at most that of two lists together, so is the sum
sum_le : (xs ys zs : List ℕ) → length xs ≡ length ys → length zs ≡ length ys
    → ((i : ℕ) → slice_index xs i ≤ slice_index ys i + slice_index zs i) → sum xs ≤ sum ys + sum zs
sum_le [] [] [] long more within = omega arith
sum_le [] [] (z ∷ zs) long more within = absurd (omega arith)
sum_le [] (y ∷ ys) zs long more within = absurd (omega arith)
sum_le (x ∷ xs) [] zs long more within = absurd (omega arith)
sum_le (x ∷ xs) (y ∷ ys) [] long more within = absurd (omega arith)
sum_le (x ∷ xs) (y ∷ ys) (z ∷ zs) long more within =
    omega (
      arith,
      sum-cons x xs,
      sum-cons y ys,
      sum-cons z zs,
      within 0,
      sum_le xs ys zs (omega arith) (omega arith) (λ i. within (suc i)),
    )

-- where one element is less, so is the sum
sum_less : (xs ys zs : List ℕ) (i : ℕ) → length xs ≡ length ys → length zs ≡ length ys
    → ((j : ℕ) → slice_index xs j ≤ slice_index ys j + slice_index zs j)
    → slice_index xs i < slice_index ys i + slice_index zs i → sum xs < sum ys + sum zs
sum_less [] [] [] i long more within less = absurd (omega arith)
sum_less [] [] (z ∷ zs) i long more within less = absurd (omega arith)
sum_less [] (y ∷ ys) zs i long more within less = absurd (omega arith)
sum_less (x ∷ xs) [] zs i long more within less = absurd (omega arith)
sum_less (x ∷ xs) (y ∷ ys) [] i long more within less = absurd (omega arith)
sum_less (x ∷ xs) (y ∷ ys) (z ∷ zs) zero long more within less =
    omega (
      arith,
      sum-cons x xs,
      sum-cons y ys,
      sum-cons z zs,
      less,
      sum_le xs ys zs (omega arith) (omega arith) (λ j. within (suc j)),
    )
sum_less (x ∷ xs) (y ∷ ys) (z ∷ zs) (suc i) long more within less =
    omega (
      arith,
      sum-cons x xs,
      sum-cons y ys,
      sum-cons z zs,
      within 0,
      sum_less xs ys zs i (omega arith) (omega arith) (λ j. within (suc j)) less,
    )

-- how many recordings there are, at most
pub kept_within : {B : Type 0} (stands : B → Standing) (c : CellValue B) → CellKept stands c
    → c.count ≤ total c.facts
kept_within stands c k =
    omega (
      arith,
      k.counted,
      k.shared,
      sum_le c.spent c.facts.budgets c.granted k.one_budget_each k.one_grant_each k.within,
    )

-- its recordings are within its budgets and its spare
pub kept_journal : {B : Type 0} (stands : B → Standing) (c : CellValue B) (k : CellKept stands c)
    → IsJournal c.facts k.journal
kept_journal stands c k = record {
  admitted = k.admitted;
  budgeted = omega (arith, k.known.counted, kept_within stands c k);
}

-- a recorder with recordings left leaves room for one more
pub has_room : {B : Type 0} (stands : B → Standing) (c : CellValue B) (recorder : ℕ)
    → CellKept stands c
    → slice_index c.spent recorder < budget_of c recorder → c.count + 1 ≤ total c.facts
has_room stands c recorder k left =
    omega (
      arith,
      k.counted,
      k.shared,
      sum_less c.spent c.facts.budgets c.granted recorder
          k.one_budget_each k.one_grant_each k.within left,
    )
