-- Lists with an element for each number below a bound.
use Rattle.std.proofs.Common.{◌≡◌, ℕ, zero, suc, ◌+◌, ◌<◌, ◌≤◌, List, [], ◌∷◌, ◌++◌, length, get_or, take, drop, fold, map, Some, refl, sym, ap, subst, ◌∙◌, arith, take_all, inl, inr, length-append}
use Rattle.std.specs.Prelude.{slice_get}
use Rattle.std.specs.List.{AllZip, enumerate_from, flat_map, range_with_len}
use Rattle.std.proofs.lemmas.List.{append-nil, get_or_append_left, length-take-le, take-append-le, take_more}
use Rattle.std.proofs.lemmas.List.Concat.{flat_map-append}
use Rattle.std.proofs.lemmas.List.FromFn.{get_or-map-range_with_len, length-map-range_with_len}
use Rattle.std.proofs.lemmas.Option.{slice_get_read}
use Rattle.std.proofs.lemmas.Bool.{cases_lt}
use Rattle.std.proofs.Math.Seq.{get_or-append_seam}
use Rattle.metric_resolve.proofs.Numbers.{append_twice}

-- a fact of each element and its number
pub numbered_all : {B : Type 0} (R : ℕ → B → Type 0) (a n : ℕ) (ys : List B) (d : B) → length ys ≡ n → ((i : ℕ) → i < n → R (a + i) (get_or ys i d)) → AllZip R (range_with_len a n) ys
numbered_all R a zero [] d long each = tt
numbered_all R a zero (y ∷ ys) d long each = absurd (omega (arith, long))
numbered_all R a (suc n) [] d long each = absurd (omega (arith, long))
numbered_all R a (suc n) (y ∷ ys) d long each =
    let first : a + 0 ≡ a = omega arith in (
      subst (λ (k : ℕ). R k y) first (each 0 (omega arith)),
      numbered_all R (a + 1) n ys d (omega (arith, long))
          (λ i less. (let is : a + suc i ≡ a + 1 + i = omega arith in subst (λ (k : ℕ). R k (get_or ys i d)) is (each (suc i) (omega arith)))),
    )

-- a table that has at each place what a function gives for the place
pub table_length : {X : Type 0} (f : ℕ → X) (n : ℕ) (xs : List X) → xs ≡ map f (range_with_len 0 n) → length xs ≡ n
table_length f n xs e = ap length e ∙ length-map-range_with_len f 0 n

pub table_at : {X : Type 0} (f : ℕ → X) (n : ℕ) (xs : List X) → xs ≡ map f (range_with_len 0 n) → (i : ℕ) (d : X) → i < n → get_or xs i d ≡ f i
table_at {X = X} f n xs e i d within = ap (λ (ys : List X). get_or ys i d) e ∙ get_or-map-range_with_len f 0 n i i d within (omega arith)

-- an element of a list that is another
pub element_at : {X : Type 0} (xs ys : List X) (n : ℕ) (x : X) → ys ≡ xs → n < length ys → x ≡ get_or ys n x → slice_get xs n ≡ Some x
element_at {X = X} xs ys n x same within is = ap (λ (zs : List X). slice_get zs n) (sym same) ∙ slice_get_read ys (length ys) n x refl within is

-- one element more with its number
pub enumerate_more : {X : Type 0} (a : ℕ) (xs : List X) (x : X) → enumerate_from a (xs ++ x ∷ []) ≡ enumerate_from a xs ++ (a + length xs, x) ∷ []
enumerate_more a [] x = let is : a ≡ a + 0 = omega arith in ap (λ (k : ℕ). (k, x) ∷ []) is
enumerate_more a (y ∷ xs) x =
    let is : a + 1 + length xs ≡ a + suc (length xs) = omega arith in
    ap (λ zs. (a, y) ∷ zs) (enumerate_more (a + 1) xs x ∙ ap (λ (k : ℕ). enumerate_from (a + 1) xs ++ (k, x) ∷ []) is)

-- what a list is after all its elements are written
pub written_back : {X : Type 0} (len : ℕ) (new old : List X) → length new ≡ length old → len ≡ length old → take len (new ++ drop (length new) old) ≡ new
written_back len new old same is =
    let within : len ≤ length new = omega arith in
    take-append-le len new (drop (length new) old) within ∙ take_all len new (omega arith)

-- a fact of each number below a bound
pub each_below : {B : Type 0} (R : ℕ → B → Type 0) (n : ℕ) (ys : List B) (d : B) → length ys ≡ n → ((i : ℕ) → i < n → R i (get_or ys i d)) → AllZip R (range_with_len 0 n) ys
each_below R n ys d long each =
    numbered_all R 0 n ys d long (λ i less. (let is : i ≡ 0 + i = omega arith in subst (λ (k : ℕ). R k (get_or ys i d)) is (each i less)))

-- one element more, with its number
pub enumerate_take : {X : Type 0} (xs : List X) (n : ℕ) (x : X) → n < length xs → x ≡ get_or xs n x
    → enumerate_from 0 (take (n + 1) xs) ≡ enumerate_from 0 (take n xs) ++ (n, x) ∷ []
enumerate_take xs n x within is =
    let long : 0 + length (take n xs) ≡ n = omega (arith, length-take-le n xs (omega arith)) in
    ap (enumerate_from 0) (take_more xs n x within) ∙ enumerate_more 0 (take n xs) (get_or xs n x)
    ∙ ap (λ (k : ℕ). enumerate_from 0 (take n xs) ++ (k, get_or xs n x) ∷ []) long
    ∙ ap (λ y. enumerate_from 0 (take n xs) ++ (n, y) ∷ []) (sym is)

pub numbered_turn : {X A : Type 0} (f : ℕ × X → List A) (xs : List X) (n : ℕ) (x : X) (old now next : List A) → n < length xs → x ≡ get_or xs n x
    → now ≡ old ++ flat_map f (enumerate_from 0 (take n xs)) → next ≡ now ++ f (n, x) → next ≡ old ++ flat_map f (enumerate_from 0 (take (n + 1) xs))
numbered_turn f xs n x old now next within is before after =
    append_twice old now next _ (f (n, x)) _ before after
    (ap (flat_map f) (enumerate_take xs n x within is) ∙ flat_map-append f (enumerate_from 0 (take n xs)) ((n, x) ∷ [])
    ∙ ap (λ ys. flat_map f (enumerate_from 0 (take n xs)) ++ ys) (append-nil (f (n, x))))

-- a fold over one element more, with its number
pub numbered_fold : {X B : Type 0} (f : B → ℕ × X → B) (b : B) (xs : List X) (n : ℕ) (x : X) → n < length xs → x ≡ get_or xs n x
    → fold f b (enumerate_from 0 (take (n + 1) xs)) ≡ f (fold f b (enumerate_from 0 (take n xs))) (n, x)
numbered_fold {X = X} {B = B} f b xs n x within is = ap (fold f b) (enumerate_take xs n x within is) ∙ fold_append b (enumerate_from 0 (take n xs)) (n, x)
  where
    fold_append : (c : B) (ys : List (ℕ × X)) (y : ℕ × X) → fold f c (ys ++ y ∷ []) ≡ f (fold f c ys) y
    fold_append c [] y = refl
    fold_append c (z ∷ ys) y = fold_append (f c z) ys y

-- a fact of each element and its number, with one element more
pub pushed_each : {X : Type 0} (P : ℕ → X → Type 0) (n : ℕ) (xs ys : List X) (x : X) → length xs ≡ n → ys ≡ xs ++ x ∷ [] → ((i : ℕ) (d : X) → i < n → P i (get_or xs i d)) → P n x
    → (i : ℕ) (d : X) → i < n + 1 → P i (get_or ys i d)
pushed_each {X = X} P n xs ys x long pushed each last i d less = elim (cases_lt i n) [
  | inl before ↦ subst (P i) (sym (at ∙ get_or_append_left xs (x ∷ []) d i (omega arith))) (each i d before)
  | inr beyond ↦
      (let here : length xs ≡ i = omega arith in
      let is : get_or ys i d ≡ x = at ∙ ap (λ (k : ℕ). get_or (xs ++ x ∷ []) k d) (sym here) ∙ get_or-append_seam xs x [] d in
      subst (P i) (sym is) (subst (λ (k : ℕ). P k x) (sym long ∙ here) last))
]
  where
    at : get_or ys i d ≡ get_or (xs ++ x ∷ []) i d
    at = ap (λ (zs : List X). get_or zs i d) pushed

pub pushed_long : {X : Type 0} (n : ℕ) (xs ys : List X) (x : X) → length xs ≡ n → ys ≡ xs ++ x ∷ [] → length ys ≡ n + 1
pushed_long n xs ys x long pushed = let more = ap length pushed ∙ length-append xs (x ∷ []) in omega arith
