-- What joined lists contain.
use Rattle.std.proofs.Common.{◌≡◌, slice_get, ℕ, zero, suc, take, length, ◌<◌, List, [], ◌∷◌, get_or, Contains, Option, Some, None, refl, sym, ap, subst, ◌∙◌, arith, ◌⊎◌, inl, inr}
use Rattle.std.specs.List.{cons_option, filter_map, flat_map, range_with_len}
use Rattle.std.proofs.lemmas.List.Elements.{Contains-append_cases, Contains-append_left, Contains-append_right, Contains-get_or, Contains-push_cases, at_from_Contains}
use Rattle.std.proofs.lemmas.Option.{slice_get_read}
use Rattle.std.proofs.lemmas.List.FromFn.{get_or-range_with_len, length-range_with_len}

pub nothing_in_nil : {A : Type 0} (x : A) → Contains [] x → ⊥
nothing_in_nil x in' = let at = at_from_Contains [] x in' in omega (arith, at.1)

one_of_one : {A : Type 0} (x y : A) → Contains (y ∷ []) x → y ≡ x
one_of_one x y in' = elim (Contains-push_cases [] y x in') [ inl h ↦ absurd (nothing_in_nil x h) | inr e ↦ e ]

-- the first, or one of the others
cons_cases : {A : Type 0} (y : A) (xs : List A) (x : A) → Contains (y ∷ xs) x → (y ≡ x) ⊎ Contains xs x
cons_cases y xs x in' = elim (Contains-append_cases (y ∷ []) xs x in') [ inl h ↦ inl (one_of_one x y h) | inr h ↦ inr h ]

cons_first : {A : Type 0} (x : A) (xs : List A) → Contains (x ∷ xs) x
cons_first x xs = Contains-get_or (x ∷ xs) 0 x (omega arith)

-- what is in one of the pieces
pub Contains-flat_map : {X A : Type 0} (f : X → List A) (xs : List X) (x : X) (y : A) → Contains xs x → Contains (f x) y → Contains (flat_map f xs) y
Contains-flat_map f [] x y in' here = absurd (nothing_in_nil x in')
Contains-flat_map f (z ∷ xs) x y in' here =
    elim (cons_cases z xs x in') [
      | inl e ↦ Contains-append_left (f z) (flat_map f xs) y (subst (λ w. Contains (f w) y) (sym e) here)
      | inr h ↦ Contains-append_right (f z) (flat_map f xs) y (Contains-flat_map f xs x y h here)
    ]

-- what is given of one of the elements
pub Contains-filter_map : {X A : Type 0} (h : X → Option A) (xs : List X) (x : X) (y : A) → Contains xs x → h x ≡ Some y → Contains (filter_map h xs) y
Contains-filter_map h [] x y in' gives = absurd (nothing_in_nil x in')
Contains-filter_map {A = A} h (z ∷ xs) x y in' gives = by (h z) refl (cons_cases z xs x in') (λ k. Contains-filter_map h xs x y k gives)
  where
    by : (o : Option A) → h z ≡ o → (z ≡ x) ⊎ Contains xs x → (Contains xs x → Contains (filter_map h xs) y) → Contains (cons_option o (filter_map h xs)) y
    by (Some w) e (inl same) rest =
        let is : w ≡ y = (let s : h z ≡ Some y = ap h same ∙ gives in cc) in
        subst (λ v. Contains (v ∷ filter_map h xs) y) (sym is) (cons_first y (filter_map h xs))
    by (Some w) e (inr k) rest = Contains-append_right (w ∷ []) (filter_map h xs) y (rest k)
    by None e (inl same) rest = absurd (let s : h z ≡ Some y = ap h same ∙ gives in cc)
    by None e (inr k) rest = rest k

-- an element of what is given
pub given_by : {X A P : Type 0} (h : X → Option A) (xs : List X) (y : A) → Contains (filter_map h xs) y → ((x : X) → Contains xs x → h x ≡ Some y → P) → P
given_by h [] y in' next = absurd (nothing_in_nil y in')
given_by {A = A} {P = P} h (z ∷ xs) y in' next = by (h z) refl in' (λ k. given_by h xs y k (λ x at gives. next x (Contains-append_right (z ∷ []) xs x at) gives))
  where
    by : (o : Option A) → h z ≡ o → Contains (cons_option o (filter_map h xs)) y → (Contains (filter_map h xs) y → P) → P
    by (Some w) e at rest =
        elim (cons_cases w (filter_map h xs) y at) [ inl same ↦ next z (cons_first z xs) (e ∙ ap (λ v. Some v) same) | inr k ↦ rest k ]
    by None e at rest = rest at

-- each number below a bound
pub Contains-range : (n k : ℕ) → k < n → Contains (range_with_len 0 n) k
Contains-range n k within =
    let len = length-range_with_len 0 n in
    let is : get_or (range_with_len 0 n) k 0 ≡ k = get_or-range_with_len 0 n k 0 within ∙ omega arith in
    subst (Contains (range_with_len 0 n)) is (Contains-get_or (range_with_len 0 n) k 0 (omega arith))

-- an element of the first so many
pub slice_get-take : {X : Type 0} (n : ℕ) (xs : List X) (k : ℕ) → k < n → slice_get (take n xs) k ≡ slice_get xs k
slice_get-take zero xs k less = absurd (omega arith)
slice_get-take (suc n) [] k less = refl
slice_get-take (suc n) (x ∷ xs) zero less = refl
slice_get-take (suc n) (x ∷ xs) (suc k) less = slice_get-take n xs k (omega arith)

-- an element of a list that is another
pub element_at : {X : Type 0} (xs ys : List X) (n : ℕ) (x : X) → ys ≡ xs → n < length ys → x ≡ get_or ys n x → slice_get xs n ≡ Some x
element_at xs ys n x same within is = ap (λ (zs : List _). slice_get zs n) (sym same) ∙ slice_get_read ys (length ys) n x refl within is
