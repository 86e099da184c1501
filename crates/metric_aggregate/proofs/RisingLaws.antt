-- In rising boundaries those less than a value come first.
use Rattle.std.proofs.Common.{◌+◌, ◌^◌, sub-one, pow-suc, pos, ◌-◌, ◌*◌, subst, sym, ◌∙◌, ◌≡◌, ℕ, zero, suc, ◌<◌, ◌≤◌, ℤ, ◌<ℤ◌, Bool, true, false, cond, List, [], ◌∷◌, length, refl, ap, arith, get_or}
use Rattle.std.specs.Prelude.{count_by, int_lt}
use Rattle.std.specs.List.Sorted.{IsPartitionedBy}
use Rattle.std.proofs.lemmas.Bool.{and_parts, true≢false}
use Rattle.std.proofs.lemmas.List.{get_or_default}
use Rattle.std.proofs.lemmas.Int.{ints}
use Rattle.std.proofs.lemmas.List.Sums.{sum_by-cons}
use Rattle.metric_base.specs.Boundaries.{is_rising, rises_after}

below_later : (x : ℤ) (ys : List ℤ) → rises_after x ys ≡ true → (j : ℕ) (d : ℤ) → j < length ys → x <ℤ get_or ys j d
below_later x [] r j d l = absurd (omega arith)
below_later x (y ∷ ys) r zero d l = grind (arith, ints, and_parts (int_lt x y) (rises_after y ys) r)
below_later x (y ∷ ys) r (suc j) d l =
    let parts : (int_lt x y ≡ true) × (rises_after y ys ≡ true) = and_parts (int_lt x y) (rises_after y ys) r in
    let later : y <ℤ get_or ys j d = below_later y ys parts.1 j d (omega arith) in
    grind (arith, ints, parts.0, later)

rises_rest : (x : ℤ) (ys : List ℤ) → rises_after x ys ≡ true → is_rising ys ≡ true
rises_rest x [] r = refl
rises_rest x (y ∷ ys) r = (and_parts (int_lt x y) (rises_after y ys) r).1

pub rising_partitioned : (xs : List ℤ) (v : ℤ) → is_rising xs ≡ true → IsPartitionedBy (λ b. int_lt b v) xs
rising_partitioned [] v r i j d le below less = absurd (omega arith)
rising_partitioned (x ∷ xs) v r zero zero d le below less = less
rising_partitioned (x ∷ xs) v r zero (suc j) d le below less =
    let later : x <ℤ get_or xs j d = below_later x xs r j d (omega arith) in
    grind (arith, ints, later, less)
rising_partitioned (x ∷ xs) v r (suc i) zero d le below less = absurd (omega arith)
rising_partitioned (x ∷ xs) v r (suc i) (suc j) d le below less =
    rising_partitioned xs v (rises_rest x xs r) i j d (omega arith) (omega arith) less

-- a count of what comes first
pub count_by_first : {X : Type 0} (p : X → Bool) (xs : List X) (n : ℕ) → n ≤ length xs
    → ((k : ℕ) (d : X) → k < n → p (get_or xs k d) ≡ true) → ((k : ℕ) (d : X) → n ≤ k → k < length xs → p (get_or xs k d) ≡ false)
    → n ≡ count_by p xs
count_by_first {X = X} p [] n le passes fails = omega arith
count_by_first {X = X} p (x ∷ xs) zero le passes fails =
    let first : p x ≡ false = fails zero x (omega arith) (omega arith) in
    let rest : 0 ≡ count_by p xs = count_by_first p xs zero (omega arith) (λ k d below. absurd (omega arith)) (λ k d from below. fails (suc k) d (omega arith) (omega arith)) in
    omega (arith, rest, sum_by-cons (λ (y : X). cond (p y) 1 0) x xs, ap {B = ℕ} (λ (b : Bool). cond b 1 0) first)
count_by_first {X = X} p (x ∷ xs) (suc n) le passes fails =
    let first : p x ≡ true = passes zero x (omega arith) in
    let rest : n ≡ count_by p xs = count_by_first p xs n (omega arith) (λ k d below. passes (suc k) d (omega arith)) (λ k d from below. fails (suc k) d (omega arith) (omega arith)) in
    omega (arith, rest, sum_by-cons (λ (y : X). cond (p y) 1 0) x xs, ap {B = ℕ} (λ (b : Bool). cond b 1 0) first)

-- the tests of a list are known outside of these places: true before them, and false from them on
pub record IsParted (p : ℤ → Bool) (xs : List ℤ) (low high : ℕ) : Type 0 where
  pub below : (k : ℕ) (d : ℤ) → k < low → p (get_or xs k d) ≡ true
  pub above : (k : ℕ) (d : ℤ) → high ≤ k → k < length xs → p (get_or xs k d) ≡ false
  pub ordered : low ≤ high
  pub within : high ≤ length xs

before_true : (p : ℤ → Bool) (xs : List ℤ) (m : ℕ) → IsPartitionedBy p xs → m < length xs → p (get_or xs m (pos 0)) ≡ true → (k : ℕ) (d : ℤ) → k ≤ m → p (get_or xs k d) ≡ true
before_true p xs m parted inside less k d le =
    parted k m d le inside (subst (λ (z : ℤ). p z ≡ true) (get_or_default xs m (pos 0) d inside) less)

after_false : (p : ℤ → Bool) (xs : List ℤ) (m : ℕ) → IsPartitionedBy p xs → p (get_or xs m (pos 0)) ≡ false → (k : ℕ) (d : ℤ) → m ≤ k → k < length xs → p (get_or xs k d) ≡ false
after_false p xs m parted reached k d le inside =
    not_true (p (get_or xs k d)) (λ less.
    true≢false (sym (parted m k (pos 0) le inside (subst (λ (z : ℤ). p z ≡ true) (get_or_default xs k d (pos 0) inside) less)) ∙ reached))
  where
    not_true : (b : Bool) → (b ≡ true → ⊥) → b ≡ false
    not_true true never = absurd (never refl)
    not_true false never = refl

-- the first step leaves one place fewer than its width, at the front or at the end
pub parted_first : (p : ℤ → Bool) (xs : List ℤ) (width found : ℕ) (less : Bool) → IsPartitionedBy p xs → 0 < width → width ≤ length xs → length xs < 2 * width
    → less ≡ p (get_or xs (width - 1) (pos 0)) → found ≡ cond less (length xs + 1 - width) 0 → IsParted p xs found (found + width - 1)
parted_first p xs width found true parted some le more e f = record {
  below = λ k d below. before_true p xs (width - 1) parted (omega arith) (sym e) k d (omega arith);
  above = λ k d from inside. absurd (omega arith);
  ordered = omega arith;
  within = omega arith;
}
parted_first p xs width found false parted some le more e f = record {
  below = λ k d below. absurd (omega arith);
  above = λ k d from inside. after_false p xs (width - 1) parted (sym e) k d (omega arith) inside;
  ordered = omega arith;
  within = omega arith;
}

-- each further step halves the places
pub parted_half : (p : ℤ → Bool) (xs : List ℤ) (found half width step : ℕ) (less : Bool) → IsPartitionedBy p xs → 0 < half → width ≡ half + half → IsParted p xs found (found + width - 1)
    → less ≡ p (get_or xs (found + half - 1) (pos 0)) → step ≡ cond less half 0 → IsParted p xs (found + step) (found + step + half - 1)
parted_half p xs found half width step true parted some twice known e f =
    let top : found + width - 1 ≤ length xs = known.within in
    record {
      below = λ k d below. before_true p xs (found + half - 1) parted (omega arith) (sym e) k d (omega arith);
      above = λ k d from inside. known.above k d (omega arith) inside;
      ordered = omega arith;
      within = omega arith;
    }
parted_half p xs found half width step false parted some twice known e f =
    let top : found + width - 1 ≤ length xs = known.within in
    record {
      below = λ k d below. known.below k d (omega arith);
      above = λ k d from inside. after_false p xs (found + half - 1) parted (sym e) k d (omega arith) inside;
      ordered = omega arith;
      within = omega arith;
    }

-- no place is left
pub parted_count : (p : ℤ → Bool) (xs : List ℤ) (found : ℕ) → IsParted p xs found (found + 1 - 1) → found ≡ count_by p xs
parted_count p xs found known =
    let top : found + 1 - 1 ≤ length xs = known.within in
    count_by_first p xs found (omega arith) known.below (λ k d from inside. known.above k d (omega arith) inside)

pub power_half : (n : ℕ) → 0 < n → 2 ^ n ≡ 2 ^ (n - 1) + 2 ^ (n - 1)
power_half zero some = absurd (omega arith)
power_half (suc n) some = rw sub-one (pow-suc 2 n ∙ omega arith)
