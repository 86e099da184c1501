-- Sums over keys of which each entry has exactly one.
use Rattle.std.proofs.Common.{◌≡◌, ℕ, ◌+◌, ℤ, pos, ◌+ℤ◌, Bool, true, false, cond, List, [], ◌∷◌, length, map, All, refl, ap, arith}
use Rattle.std.specs.Prelude.{filter, fold, sum_by, count_by}
use Rattle.std.proofs.lemmas.Int.{ints}
use Rattle.std.proofs.lemmas.List.Elements.{All-head, All-tail}
use Rattle.std.proofs.lemmas.List.Sums.{sum_by-cons}
use Rattle.metric_aggregate.specs.Value.{sum_of}
use Rattle.metric_history.specs.declared.entry.Entry.{Entry}
use Rattle.metric_history.specs.Points.{values}

-- sums of what is the same at each element
pub sum_by_same : {X : Type 0} (f g : X → ℕ) → ((x : X) → f x ≡ g x) → (xs : List X) → sum_by f xs ≡ sum_by g xs
sum_by_same f g same [] = refl
sum_by_same f g same (x ∷ xs) = omega (arith, sum_by-cons f x xs, sum_by-cons g x xs, same x, sum_by_same f g same xs)

sum_by_split : {X : Type 0} (f g h : X → ℕ) → ((x : X) → f x ≡ g x + h x) → (xs : List X) → sum_by f xs ≡ sum_by g xs + sum_by h xs
sum_by_split f g h split [] = refl
sum_by_split f g h split (x ∷ xs) = omega (arith, sum_by-cons f x xs, sum_by-cons g x xs, sum_by-cons h x xs, split x, sum_by_split f g h split xs)

sum_by_none : {X : Type 0} (xs : List X) → sum_by (λ x. 0) xs ≡ 0
sum_by_none [] = refl
sum_by_none {X} (x ∷ xs) = omega (arith, sum_by-cons {X = X} (λ x. 0) x xs, sum_by_none xs)

pub sum_by-map : {X Y : Type 0} (g : Y → ℕ) (f : X → Y) (xs : List X) → sum_by g (map f xs) ≡ sum_by (λ x. g (f x)) xs
sum_by-map g f [] = refl
sum_by-map g f (x ∷ xs) = omega (arith, sum_by-cons g (f x) (map f xs), sum_by-cons (λ x. g (f x)) x xs, sum_by-map g f xs)

-- Where each entry passes the test of exactly one key, the entries of all keys are as many as there are.
pub entries_counted : {K : Type 0} (test : Entry → K → Bool) (keys : List K) (entries : List Entry) → All (λ e. count_by (test e) keys ≡ 1) entries
    → sum_by (λ key. length (filter (λ e. test e key) entries)) keys ≡ length entries
entries_counted test keys [] one = sum_by_none keys
entries_counted {K} test keys (e ∷ entries) one =
    let first : count_by (test e) keys ≡ 1 = All-head (λ e. count_by (test e) keys ≡ 1) e entries one in
    let rest : sum_by (λ key. length (filter (λ e. test e key) entries)) keys ≡ length entries =
    entries_counted test keys entries (All-tail (λ e. count_by (test e) keys ≡ 1) e entries one) in
    let split : sum_by (λ key. length (filter (λ e. test e key) (e ∷ entries))) keys ≡ count_by (test e) keys + sum_by (λ key. length (filter (λ e. test e key) entries)) keys =
    sum_by_split (λ key. length (filter (λ e. test e key) (e ∷ entries))) (λ key. cond (test e key) 1 0) (λ key. length (filter (λ e. test e key) entries)) (λ key. at (test e key) (filter (λ e. test e key) entries)) keys in
    omega (arith, first, rest, split)
  where
    at : (b : Bool) (passing : List Entry) → length (cond b (e ∷ passing) passing) ≡ cond b 1 0 + length passing
    at true passing = omega arith
    at false passing = omega arith

sum_from : (xs : List ℤ) (start : ℤ) → fold ◌+ℤ◌ start xs ≡ start +ℤ sum_of xs
sum_from [] start = omega (arith, ints)
sum_from (x ∷ xs) start = omega (arith, ints, sum_from xs (start +ℤ x), sum_from xs (pos 0 +ℤ x))

pub sum_of-cons : (x : ℤ) (xs : List ℤ) → sum_of (x ∷ xs) ≡ x +ℤ sum_of xs
sum_of-cons x xs = omega (arith, ints, sum_from xs (pos 0 +ℤ x))

pub sum_of_same : {X : Type 0} (f g : X → ℤ) → ((x : X) → f x ≡ g x) → (xs : List X) → sum_of (map f xs) ≡ sum_of (map g xs)
sum_of_same f g same [] = refl
sum_of_same f g same (x ∷ xs) = omega (arith, ints, sum_of-cons (f x) (map f xs), sum_of-cons (g x) (map g xs), same x, sum_of_same f g same xs)

sum_of_split : {X : Type 0} (f g h : X → ℤ) → ((x : X) → f x ≡ g x +ℤ h x) → (xs : List X) → sum_of (map f xs) ≡ sum_of (map g xs) +ℤ sum_of (map h xs)
sum_of_split f g h split [] = refl
sum_of_split f g h split (x ∷ xs) =
    omega (arith, ints, sum_of-cons (f x) (map f xs), sum_of-cons (g x) (map g xs), sum_of-cons (h x) (map h xs), split x, sum_of_split f g h split xs)

sum_of_zeros : {X : Type 0} (xs : List X) → sum_of (map (λ x. pos 0) xs) ≡ pos 0
sum_of_zeros [] = refl
sum_of_zeros (x ∷ xs) = omega (arith, ints, sum_of-cons (pos 0) (map (λ x. pos 0) xs), sum_of_zeros xs)

-- a number that no key takes, and one that exactly one key takes
sum_of_none : {X : Type 0} (test : X → Bool) (v : ℤ) (xs : List X) → count_by test xs ≡ 0 → sum_of (map (λ x. cond (test x) v (pos 0)) xs) ≡ pos 0
sum_of_none test v [] none = refl
sum_of_none test v (x ∷ xs) none = at (test x) refl (sum_of_none test v xs)
  where
    at : (b : Bool) → test x ≡ b → (count_by test xs ≡ 0 → sum_of (map (λ x. cond (test x) v (pos 0)) xs) ≡ pos 0) → sum_of (map (λ x. cond (test x) v (pos 0)) (x ∷ xs)) ≡ pos 0
    at true e later = absurd (omega (arith, sum_by-cons (λ x. cond (test x) 1 0) x xs, none, ap {B = ℕ} (λ (b : Bool). cond b 1 0) e))
    at false e later =
        let first : cond (test x) v (pos 0) ≡ pos 0 = ap {B = ℤ} (λ (b : Bool). cond b v (pos 0)) e in
        let rest : count_by test xs ≡ 0 = omega (arith, sum_by-cons (λ x. cond (test x) 1 0) x xs, none) in
        omega (arith, ints, sum_of-cons (cond (test x) v (pos 0)) (map (λ x. cond (test x) v (pos 0)) xs), first, later rest)

sum_of_one : {X : Type 0} (test : X → Bool) (v : ℤ) (xs : List X) → count_by test xs ≡ 1 → sum_of (map (λ x. cond (test x) v (pos 0)) xs) ≡ v
sum_of_one test v [] one = absurd (omega (arith, one))
sum_of_one test v (x ∷ xs) one = at (test x) refl (sum_of_one test v xs)
  where
    at : (b : Bool) → test x ≡ b → (count_by test xs ≡ 1 → sum_of (map (λ x. cond (test x) v (pos 0)) xs) ≡ v) → sum_of (map (λ x. cond (test x) v (pos 0)) (x ∷ xs)) ≡ v
    at true e later =
        let first : cond (test x) v (pos 0) ≡ v = ap {B = ℤ} (λ (b : Bool). cond b v (pos 0)) e in
        let rest : count_by test xs ≡ 0 = omega (arith, sum_by-cons (λ x. cond (test x) 1 0) x xs, one, ap {B = ℕ} (λ (b : Bool). cond b 1 0) e) in
        omega (arith, ints, sum_of-cons (cond (test x) v (pos 0)) (map (λ x. cond (test x) v (pos 0)) xs), first, sum_of_none test v xs rest)
    at false e later =
        let first : cond (test x) v (pos 0) ≡ pos 0 = ap {B = ℤ} (λ (b : Bool). cond b v (pos 0)) e in
        let rest : count_by test xs ≡ 1 = omega (arith, sum_by-cons (λ x. cond (test x) 1 0) x xs, one, ap {B = ℕ} (λ (b : Bool). cond b 1 0) e) in
        omega (arith, ints, sum_of-cons (cond (test x) v (pos 0)) (map (λ x. cond (test x) v (pos 0)) xs), first, later rest)

-- Where each entry passes the test of exactly one key, the sums of all keys add up to the sum.
pub entries_summed : {K : Type 0} (test : Entry → K → Bool) (keys : List K) (entries : List Entry) → All (λ e. count_by (test e) keys ≡ 1) entries
    → sum_of (map (λ key. sum_of (values (filter (λ e. test e key) entries))) keys) ≡ sum_of (values entries)
entries_summed test keys [] one = sum_of_zeros keys
entries_summed {K} test keys (e ∷ entries) one =
    let first : sum_of (map (λ key. cond (test e key) e.value (pos 0)) keys) ≡ e.value = sum_of_one (test e) e.value keys (All-head (λ e. count_by (test e) keys ≡ 1) e entries one) in
    let rest : sum_of (map (λ key. sum_of (values (filter (λ e. test e key) entries))) keys) ≡ sum_of (values entries) =
    entries_summed test keys entries (All-tail (λ e. count_by (test e) keys ≡ 1) e entries one) in
    let split : sum_of (map (λ key. sum_of (values (filter (λ e. test e key) (e ∷ entries)))) keys)
    ≡ sum_of (map (λ key. cond (test e key) e.value (pos 0)) keys) +ℤ sum_of (map (λ key. sum_of (values (filter (λ e. test e key) entries))) keys) =
    sum_of_split (λ key. sum_of (values (filter (λ e. test e key) (e ∷ entries)))) (λ key. cond (test e key) e.value (pos 0)) (λ key. sum_of (values (filter (λ e. test e key) entries)))
    (λ key. at (test e key) (filter (λ e. test e key) entries)) keys in
    omega (arith, ints, first, rest, split, sum_of-cons e.value (values entries))
  where
    at : (b : Bool) (passing : List Entry) → sum_of (values (cond b (e ∷ passing) passing)) ≡ cond b e.value (pos 0) +ℤ sum_of (values passing)
    at true passing = sum_of-cons e.value (values passing)
    at false passing = omega (arith, ints)
