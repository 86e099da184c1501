-- What is found in a list whose first elements have no fault.
use Rattle.std.proofs.Common.{◌≡◌, ◌<◌, ◌+◌, ◌-◌, ℕ, zero, suc, List, [], ◌∷◌, length, get_or, drop, Option, Some, None, Result, Ok, Err, ◌≢◌, ◌∙◌, inl, inr, sym, ap, subst, arith}
use Rattle.std.specs.List.{enumerate_from, range_with_len}
use Rattle.std.specs.Result.{IsErrAnd}
use Rattle.metric_bounds.specs.First.{Each, Reports, Then}

-- where the first finds nothing
pub then_passed : {F : Type 0} (First Second : Option F → Type 0) → First None → (found : Option F) → Second found → Then First Second found
then_passed First Second none None second = (none, second)
then_passed First Second none (Some fault) second = inr (none, second)

-- of the numbers from one on
pub range_passed : {F : Type 0} (Finds : ℕ → Option F → Type 0) (n len : ℕ) → n < len → Finds n None
    → (found : Option F) → Each Finds (range_with_len (n + 1) (len - (n + 1))) found → Each Finds (range_with_len n (len - n)) found
range_passed Finds n len within none found rest =
    let more : len - n ≡ suc (len - (n + 1)) = omega arith in
    subst (λ (k : ℕ). Each Finds (range_with_len n k) found) (sym more) (then_passed (Finds n) (Each Finds (range_with_len (n + 1) (len - (n + 1)))) none found rest)

pub range_failed : {F : Type 0} (Finds : ℕ → Option F → Type 0) (n len : ℕ) → n < len → (fault : F) → Finds n (Some fault)
    → Each Finds (range_with_len n (len - n)) (Some fault)
range_failed Finds n len within fault here =
    let more : len - n ≡ suc (len - (n + 1)) = omega arith in
    subst (λ (k : ℕ). Each Finds (range_with_len n k) (Some fault)) (sym more) (inl here)

-- an element of a list with its number, and what follows
enumerate_at : {X : Type 0} (first : ℕ) (xs : List X) (n : ℕ) (x : X) → n < length xs → x ≡ get_or xs n x
    → drop n (enumerate_from first xs) ≡ (first + n, x) ∷ drop (n + 1) (enumerate_from first xs)
enumerate_at first [] n x within is = absurd (omega arith)
enumerate_at first (y ∷ xs) zero x within is =
    let same : first ≡ first + 0 = omega arith in
    ap (λ z. (first, z) ∷ enumerate_from (first + 1) xs) (sym is) ∙ ap (λ (k : ℕ). (k, x) ∷ enumerate_from (first + 1) xs) same
enumerate_at first (y ∷ xs) (suc n) x within is =
    let longer : suc n + 1 ≡ suc (n + 1) = omega arith in
    let same : first + 1 + n ≡ first + suc n = omega arith in
    rw longer (enumerate_at (first + 1) xs n x (omega arith) is ∙ ap (λ (k : ℕ). (k, x) ∷ drop (n + 1) (enumerate_from (first + 1) xs)) same)

first_at : {X : Type 0} (xs : List X) (n : ℕ) (x : X) → n < length xs → x ≡ get_or xs n x → drop n (enumerate_from 0 xs) ≡ (n, x) ∷ drop (n + 1) (enumerate_from 0 xs)
first_at xs n x within is =
    let same : 0 + n ≡ n = omega arith in
    enumerate_at 0 xs n x within is ∙ ap (λ (k : ℕ). (k, x) ∷ drop (n + 1) (enumerate_from 0 xs)) same

-- of the elements from a place on, with their numbers
pub numbered_passed : {X F : Type 0} (Finds : ℕ × X → Option F → Type 0) (n : ℕ) (xs : List X) (x : X) → n < length xs → x ≡ get_or xs n x → Finds (n, x) None
    → (found : Option F) → Each Finds (drop (n + 1) (enumerate_from 0 xs)) found → Each Finds (drop n (enumerate_from 0 xs)) found
numbered_passed Finds n xs x within is none found rest =
    subst (λ ys. Each Finds ys found) (sym (first_at xs n x within is)) (then_passed (Finds (n, x)) (Each Finds (drop (n + 1) (enumerate_from 0 xs))) none found rest)

pub numbered_failed : {X F : Type 0} (Finds : ℕ × X → Option F → Type 0) (n : ℕ) (xs : List X) (x : X) → n < length xs → x ≡ get_or xs n x → (fault : F)
    → Finds (n, x) (Some fault) → Each Finds (drop n (enumerate_from 0 xs)) (Some fault)
numbered_failed Finds n xs x within is fault here = subst (λ ys. Each Finds ys (Some fault)) (sym (first_at xs n x within is)) (inl here)

-- an answer that passes on a fault
pub reports_on : {X F : Type 0} (memory : F) (Finds : Option F → Type 0) (r : Result X F) (e : F) → IsErrAnd r (λ x. x ≡ e) → (e ≢ memory → Finds (Some e)) → Reports memory Finds r
reports_on memory Finds (Ok x) e is fails = absurd is
reports_on memory Finds (Err x) e is fails = λ other. subst (λ f. Finds (Some f)) (sym is) (fails (λ same. other (is ∙ same)))
