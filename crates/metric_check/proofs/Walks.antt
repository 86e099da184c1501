-- A walk along two lists, place by place.
use Rattle.std.proofs.Common.{◌≡◌, ℕ, zero, suc, ◌+◌, ◌<◌, ◌≤◌, List, [], ◌∷◌, length, drop, get_or, Option, Some, None, slice_get, add-one, drop-cons, refl, sym, ap, subst, ◌∙◌, inl, inr, arith}
use Rattle.std.specs.List.{AllZip, range_with_len}
use Rattle.std.proofs.lemmas.List.FromFn.{get_or-range_with_len, length-range_with_len}
use Rattle.std.proofs.lemmas.List.{drop_all}
use Rattle.std.proofs.lemmas.Option.{get_or_from_slice_get, slice_get-get_or, slice_get_within}
use Rattle.metric_bounds.specs.First.{Then}
use Rattle.metric_check.specs.Paired.{EachPaired, Told}

-- an element of a place that is there
pub record There {X : Type 0} (xs : List X) (n : ℕ) : Type 0 where
  pub element : X
  pub at : slice_get xs n ≡ Some element

pub there : {X : Type 0} (xs : List X) (n : ℕ) → n < length xs → There xs n
there [] n within = absurd (omega arith)
there (x ∷ xs) zero within = record { element = x; at = refl }
there (x ∷ xs) (suc n) within = let later = there xs n (omega arith) in record { element = later.element; at = later.at }

-- the elements of one place
pub zip_at : {X Y : Type 0} (R : X → Y → Type 0) (xs : List X) (ys : List Y) → AllZip R xs ys → (n : ℕ) (x : X) (y : Y) → slice_get xs n ≡ Some x → slice_get ys n ≡ Some y → R x y
zip_at R [] [] zip n x y at own = absurd cc
zip_at R [] (v ∷ vs) zip n x y at own = absurd zip
zip_at R (u ∷ us) [] zip n x y at own = absurd zip
zip_at R (u ∷ us) (v ∷ vs) zip zero x y at own =
    let left : u ≡ x = cc in
    let right : v ≡ y = cc in
    subst (λ w. R x w) right (subst (λ w. R w v) left zip.0)
zip_at R (u ∷ us) (v ∷ vs) zip (suc n) x y at own = zip_at R us vs zip.1 n x y at own

-- What is found from a place on is found in all.
pub record Onward {X Y F G : Type 0} (told : ℕ → F → G) (Finds : X → Y → Option F → Type 0) (missing more : F) (xs : List X) (ys : List Y) (n : ℕ) : Type 0 where
  pub on : (found : Option G) → EachPaired told Finds missing more n (drop n xs) (drop n ys) found → EachPaired told Finds missing more 0 xs ys found

pub drop_at : {X : Type 0} (xs : List X) (n : ℕ) (x : X) → slice_get xs n ≡ Some x → drop n xs ≡ x ∷ drop (n + 1) xs
drop_at xs n x at =
    drop-cons xs n x (slice_get_within xs n x at)
    ∙ (λ j. get_or_from_slice_get xs n x x at j ∷ drop (sym (add-one n) j) xs)

module _ {X Y F G : Type 0} (told : ℕ → F → G) (Finds : X → Y → Option F → Type 0) (missing more : F) (xs : List X) (ys : List Y) where
  pub onward_first : Onward told Finds missing more xs ys 0
  onward_first = record { on = λ found p. p }

  at_both : (n : ℕ) (x : X) (y : Y) → slice_get xs n ≡ Some x → slice_get ys n ≡ Some y → (found : Option G)
      → Then (Told (told n) (Finds x y)) (EachPaired told Finds missing more (n + 1) (drop (n + 1) xs) (drop (n + 1) ys)) found
      → EachPaired told Finds missing more n (drop n xs) (drop n ys) found
  at_both n x y at own found p =
      subst (λ (us : List X). EachPaired told Finds missing more n us (drop n ys) found) (sym (drop_at xs n x at))
      (subst (λ (vs : List Y). EachPaired told Finds missing more n (x ∷ drop (n + 1) xs) vs found) (sym (drop_at ys n y own)) p)

  -- nothing is found at a place
  pub onward_next : (n : ℕ) (x : X) (y : Y) → slice_get xs n ≡ Some x → slice_get ys n ≡ Some y → Finds x y None
      → Onward told Finds missing more xs ys n → Onward told Finds missing more xs ys (n + 1)
  onward_next n x y at own none onward = record { on = λ found p. onward.on found (at_both n x y at own found (by found p)) }
    where
      by : (found : Option G) → EachPaired told Finds missing more (n + 1) (drop (n + 1) xs) (drop (n + 1) ys) found
          → Then (Told (told n) (Finds x y)) (EachPaired told Finds missing more (n + 1) (drop (n + 1) xs) (drop (n + 1) ys)) found
      by None p = (none, p)
      by (Some fault) p = inr (none, p)

  -- a fault is found at a place
  pub onward_fault : (n : ℕ) (x : X) (y : Y) (fault : G) → slice_get xs n ≡ Some x → slice_get ys n ≡ Some y → Told (told n) (Finds x y) (Some fault)
      → Onward told Finds missing more xs ys n → EachPaired told Finds missing more 0 xs ys (Some fault)
  onward_fault n x y fault at own found onward = onward.on (Some fault) (at_both n x y at own (Some fault) (inl found))

  -- what is due at a place is missing
  pub onward_missing : (n : ℕ) (fault : G) → n < length xs → length ys ≤ n → fault ≡ told n missing → Onward told Finds missing more xs ys n
      → EachPaired told Finds missing more 0 xs ys (Some fault)
  onward_missing n fault within short is onward =
      let due = there xs n within in
      onward.on (Some fault)
      (subst (λ (us : List X). EachPaired told Finds missing more n us (drop n ys) (Some fault)) (sym (drop_at xs n due.element due.at))
      (subst (λ (vs : List Y). EachPaired told Finds missing more n (due.element ∷ drop (n + 1) xs) vs (Some fault)) (sym (drop_all n ys short)) (ap (λ (g : G). Some g) is)))

  -- nothing is due at a place
  pub onward_more : (n : ℕ) (fault : G) → length xs ≤ n → n < length ys → fault ≡ told n more → Onward told Finds missing more xs ys n
      → EachPaired told Finds missing more 0 xs ys (Some fault)
  onward_more n fault short within is onward =
      let own = there ys n within in
      onward.on (Some fault)
      (subst (λ (us : List X). EachPaired told Finds missing more n us (drop n ys) (Some fault)) (sym (drop_all n xs short))
      (subst (λ (vs : List Y). EachPaired told Finds missing more n [] vs (Some fault)) (sym (drop_at ys n own.element own.at)) (ap (λ (g : G). Some g) is)))

  -- both lists have ended
  pub onward_end : (n : ℕ) → length xs ≤ n → length ys ≤ n
      → Onward told Finds missing more xs ys n → EachPaired told Finds missing more 0 xs ys None
  onward_end n short few onward =
      onward.on None
      (subst (λ (us : List X). EachPaired told Finds missing more n us (drop n ys) None) (sym (drop_all n xs short))
      (subst (λ (vs : List Y). EachPaired told Finds missing more n [] vs None) (sym (drop_all n ys few)) refl))

-- the numbers below a bound, at their places
pub range_at : (n k : ℕ) → k < n → slice_get (range_with_len 0 n) k ≡ Some k
range_at n k within =
    let long = length-range_with_len 0 n in
    let is : get_or (range_with_len 0 n) k 0 ≡ k = omega (arith, get_or-range_with_len 0 n k 0 within) in
    slice_get-get_or (range_with_len 0 n) k 0 (omega (arith, long)) ∙ ap (λ (m : ℕ). Some m) is
