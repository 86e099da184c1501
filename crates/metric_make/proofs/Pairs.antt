-- Lists that agree element by element.
use Rattle.std.proofs.Common.{◌≡◌, ◌<◌, ◌+◌, ℕ, zero, suc, List, [], ◌∷◌, ◌++◌, length, get_or, take, map, filter, All, Bool, cond, Option, Some, None, Result, Ok, Err, append-nil, append_assoc, refl, sym, ap, subst, ◌∙◌, arith}
use Rattle.std.specs.List.{AllZip, flat_map, range_with_len}
use Rattle.std.specs.Prelude.{IfOk, slice_get}
use Rattle.std.proofs.lemmas.List.{take_more}
use Rattle.std.proofs.lemmas.List.Elements.{All-head, All-tail, filter-append}
use Rattle.std.proofs.lemmas.List.FromFn.{get_or-map-range_with_len, length-map-range_with_len}
use Rattle.std.proofs.lemmas.Option.{slice_get_past, slice_get_read}
use Rattle.std.specs.Option.{option_copied}
use Rattle.std.specs.Slice.{IsItemAt}
use denote.Ref.{Bor}

pub AllZip-append : {A B : Type 0} (R : A → B → Type 0) (xs us : List A) (ys vs : List B) → AllZip R xs ys → AllZip R us vs → AllZip R (xs ++ us) (ys ++ vs)
AllZip-append R [] us [] vs p q = q
AllZip-append R [] us (y ∷ ys) vs p q = absurd p
AllZip-append R (x ∷ xs) us [] vs p q = absurd p
AllZip-append R (x ∷ xs) us (y ∷ ys) vs p q = (p.0, AllZip-append R xs us ys vs p.1 q)

pub AllZip-weaker : {A B : Type 0} (R S : A → B → Type 0) → ((x : A) (y : B) → R x y → S x y) → (xs : List A) (ys : List B) → AllZip R xs ys → AllZip S xs ys
AllZip-weaker R S weaker [] [] p = tt
AllZip-weaker R S weaker [] (y ∷ ys) p = absurd p
AllZip-weaker R S weaker (x ∷ xs) [] p = absurd p
AllZip-weaker R S weaker (x ∷ xs) (y ∷ ys) p = (weaker x y p.0, AllZip-weaker R S weaker xs ys p.1)

-- of a list that a function gives, on the left and on the right
pub AllZip-map_left : {X A B : Type 0} (f : X → A) (R : A → B → Type 0) (xs : List X) (ys : List B) → AllZip (λ x y. R (f x) y) xs ys → AllZip R (map f xs) ys
AllZip-map_left f R [] [] p = tt
AllZip-map_left f R [] (y ∷ ys) p = absurd p
AllZip-map_left f R (x ∷ xs) [] p = absurd p
AllZip-map_left f R (x ∷ xs) (y ∷ ys) p = (p.0, AllZip-map_left f R xs ys p.1)

pub AllZip-mapped : {A B : Type 0} (f : A → B) (R : A → B → Type 0) (xs : List A) → All (λ x. R x (f x)) xs → AllZip R xs (map f xs)
AllZip-mapped f R [] all = tt
AllZip-mapped f R (x ∷ xs) all = (All-head (λ x. R x (f x)) x xs all, AllZip-mapped f R xs (All-tail (λ x. R x (f x)) x xs all))

-- the numbers up to one more
pub range_more : (a n : ℕ) → range_with_len a (n + 1) ≡ range_with_len a n ++ (a + n) ∷ []
range_more a zero = let is : a ≡ a + 0 = omega arith in ap (λ (k : ℕ). k ∷ []) is
range_more a (suc n) =
    let longer : suc n + 1 ≡ suc (n + 1) = omega arith in
    let is : a + 1 + n ≡ a + suc n = omega arith in
    rw longer (ap (λ (ks : List ℕ). a ∷ ks) (range_more (a + 1) n ∙ ap (λ (k : ℕ). range_with_len (a + 1) n ++ k ∷ []) is))

-- the numbers that pass, up to one more
pub filter_range_more : (p : ℕ → Bool) (n : ℕ) → filter p (range_with_len 0 (n + 1)) ≡ filter p (range_with_len 0 n) ++ cond (p n) (n ∷ []) []
filter_range_more p n =
    let is : 0 + n ≡ n = omega arith in
    ap (filter p) (range_more 0 n ∙ ap (λ (k : ℕ). range_with_len 0 n ++ k ∷ []) is) ∙ filter-append p (range_with_len 0 n) (n ∷ [])

-- one pair more, by number
pub AllZip-range_more : {B : Type 0} (R : ℕ → B → Type 0) (n : ℕ) (ys : List B) (y : B) → AllZip R (range_with_len 0 n) ys → R n y
    → AllZip R (range_with_len 0 (n + 1)) (ys ++ y ∷ [])
AllZip-range_more R n ys y before next =
    let is : 0 + n ≡ n = omega arith in
    subst (λ (ks : List ℕ). AllZip R ks (ys ++ y ∷ [])) (sym (range_more 0 n))
    (AllZip-append R (range_with_len 0 n) ((0 + n) ∷ []) ys (y ∷ []) before (subst (λ (k : ℕ). R k y) (sym is) next, tt))

-- one list of pairs more, by number
pub AllZip-flat_more : {A B : Type 0} (R : A → B → Type 0) (f : ℕ → List A) (n : ℕ) (ys more : List B) → AllZip R (flat_map f (range_with_len 0 n)) ys → AllZip R (f n) more
    → AllZip R (flat_map f (range_with_len 0 (n + 1))) (ys ++ more)
AllZip-flat_more {A = A} R f n ys more before next =
    let is : 0 + n ≡ n = omega arith in
    subst (λ (xs : List A). AllZip R xs (ys ++ more)) (sym (flat_one (range_with_len 0 n) (0 + n) ∙ ap (λ (k : ℕ). flat_map f (range_with_len 0 n) ++ f k) is) ∙ ap (flat_map f) (sym (range_more 0 n)))
    (AllZip-append R (flat_map f (range_with_len 0 n)) (f n) ys more before next)
  where
    flat_one : (ks : List ℕ) (k : ℕ) → flat_map f (ks ++ k ∷ []) ≡ flat_map f ks ++ f k
    flat_one [] k = append-nil (f k)
    flat_one (j ∷ ks) k = ap (λ (xs : List A). f j ++ xs) (flat_one ks k) ∙ sym (append_assoc (f j) (flat_map f ks) (f k))

-- a table that has at each place what a function gives for the place
pub table_length : {X : Type 0} (f : ℕ → X) (n : ℕ) (xs : List X) → xs ≡ map f (range_with_len 0 n) → length xs ≡ n
table_length f n xs e = ap length e ∙ length-map-range_with_len f 0 n

pub table_at : {X : Type 0} (f : ℕ → X) (n : ℕ) (xs : List X) → xs ≡ map f (range_with_len 0 n) → (i : ℕ) (d : X) → i < n → get_or xs i d ≡ f i
table_at {X = X} f n xs e i d within = ap (λ (ys : List X). get_or ys i d) e ∙ get_or-map-range_with_len f 0 n i i d within (omega arith)

-- an element of a list that is another
pub element_at : {X : Type 0} (xs ys : List X) (n : ℕ) (x : X) → ys ≡ xs → n < length ys → x ≡ get_or ys n x → slice_get xs n ≡ Some x
element_at {X = X} xs ys n x same within is = ap (λ (zs : List X). slice_get zs n) (sym same) ∙ slice_get_read ys (length ys) n x refl within is

pub AllZip-length : {A B : Type 0} (R : A → B → Type 0) (xs : List A) (ys : List B) → AllZip R xs ys → length ys ≡ length xs
AllZip-length R [] [] p = refl
AllZip-length R [] (y ∷ ys) p = absurd p
AllZip-length R (x ∷ xs) [] p = absurd p
AllZip-length R (x ∷ xs) (y ∷ ys) p = let rest = AllZip-length R xs ys p.1 in omega arith

pub AllZip-at : {A B : Type 0} (R : A → B → Type 0) (xs : List A) (ys : List B) → AllZip R xs ys → (i : ℕ) (d : A) (e : B) → i < length xs → R (get_or xs i d) (get_or ys i e)
AllZip-at R [] ys p i d e within = absurd (omega arith)
AllZip-at R (x ∷ xs) [] p i d e within = absurd p
AllZip-at R (x ∷ xs) (y ∷ ys) p zero d e within = p.0
AllZip-at R (x ∷ xs) (y ∷ ys) p (suc i) d e within = AllZip-at R xs ys p.1 i d e (omega arith)

-- what a function gives of one element more
pub mapped_more : {A B : Type 0} (f : A → B) (xs : List A) (j : ℕ) (x : A) (ys : List B) (y : B) → j < length xs → x ≡ get_or xs j x → ys ≡ map f (take j xs) → y ≡ f x
    → ys ++ y ∷ [] ≡ map f (take (j + 1) xs)
mapped_more {A = A} {B = B} f xs j x ys y within is before next =
    ap (λ (zs : List B). zs ++ y ∷ []) before ∙ ap (λ (z : B). map f (take j xs) ++ z ∷ []) (next ∙ ap f is)
    ∙ sym (map_one (take j xs) (get_or xs j x)) ∙ ap (map f) (sym (take_more xs j x within))
  where
    map_one : (zs : List A) (z : A) → map f (zs ++ z ∷ []) ≡ map f zs ++ f z ∷ []
    map_one [] z = refl
    map_one (w ∷ zs) z = ap (λ (us : List B). f w ∷ us) (map_one zs z)

-- a call that did not fail
pub if_ok_then : {X E : Type 0} (P Q : X → Type 0) (r : Result X E) → IfOk r P → ((x : X) → P x → Q x) → IfOk r Q
if_ok_then P Q (Ok x) p next = next x p
if_ok_then P Q (Err e) p next = p

-- what `get` gave, from a list that is another
pub item_got : {X : Type 0} (xs ys : List X) (n : ℕ) (r : Option (Bor X)) → ys ≡ xs → IsItemAt ys n r → option_copied r ≡ slice_get xs n
item_got xs ys n None same item = let long = ap length same in sym (slice_get_past xs n (omega (arith, item.3)))
item_got xs ys n (Some x) same item = sym (element_at xs ys n x.now same item.3.0 item.1)
