-- Lists in which each element stands before all that follow.
use Rattle.std.proofs.Common.{◌≡◌, ℕ, zero, suc, ◌+◌, ◌<◌, Bool, true, false, cond, filter, map, List, [], ◌∷◌, ◌++◌, All, AllPairs, Option, Some, None, refl, sym, subst, arith}
use Rattle.std.specs.List.{cons_option, filter_map, flat_map, range_with_len}
use Rattle.std.proofs.lemmas.List.Elements.{All-append, All-cons, All-filter, All-head, All-map, All-nil, All-tail, All-weaker}
use Rattle.std.proofs.lemmas.List.Kept.{AllPairs-cons}

abbrev pub Ordered : {A : Type 0} → (A → A → Type 0) → List A → Type 0
Ordered R [] = Unit {0}
Ordered R (x ∷ xs) = All (R x) xs × Ordered R xs

pub AllPairs-from_Ordered : {A : Type 0} (R : A → A → Type 0) (xs : List A) → Ordered R xs → AllPairs R xs
AllPairs-from_Ordered R [] o = λ i j d before within. absurd (omega arith)
AllPairs-from_Ordered R (x ∷ xs) o = AllPairs-cons R x xs o.0 (AllPairs-from_Ordered R xs o.1)

Ordered-append : {A : Type 0} (R : A → A → Type 0) (xs ys : List A) → Ordered R xs → Ordered R ys → All (λ x. All (R x) ys) xs → Ordered R (xs ++ ys)
Ordered-append R [] ys o u cross = u
Ordered-append R (x ∷ xs) ys o u cross =
    (All-append (R x) xs ys o.0 (All-head (λ x. All (R x) ys) x xs cross), Ordered-append R xs ys o.1 u (All-tail (λ x. All (R x) ys) x xs cross))

Ordered-filter : {A : Type 0} (R : A → A → Type 0) (p : A → Bool) (xs : List A) → Ordered R xs → Ordered R (filter p xs)
Ordered-filter R p [] o = tt
Ordered-filter R p (x ∷ xs) o = by (p x) (All-filter p (R x) xs o.0) (Ordered-filter R p xs o.1)
  where
    by : (b : Bool) → All (R x) (filter p xs) → Ordered R (filter p xs) → Ordered R (cond b (x ∷ filter p xs) (filter p xs))
    by true all rest = (all, rest)
    by false all rest = rest

-- what is given of elements of which something is known
pub All-given : {X A : Type 0} (P : X → Type 0) (Q : A → Type 0) (h : X → Option A) → ((x : X) (y : A) → P x → h x ≡ Some y → Q y) → (xs : List X) → All P xs → All Q (filter_map h xs)
All-given P Q h each [] all = All-nil Q
All-given {A = A} P Q h each (x ∷ xs) all = by (h x) refl (All-given P Q h each xs (All-tail P x xs all))
  where
    by : (o : Option A) → h x ≡ o → All Q (filter_map h xs) → All Q (cons_option o (filter_map h xs))
    by (Some y) e rest = All-cons Q y (filter_map h xs) (each x y (All-head P x xs all) e) rest
    by None e rest = rest

pub Ordered-given : {X A : Type 0} (Q : X → X → Type 0) (R : A → A → Type 0) (h : X → Option A) → ((x y : X) (s t : A) → Q x y → h x ≡ Some s → h y ≡ Some t → R s t)
    → (xs : List X) → Ordered Q xs → Ordered R (filter_map h xs)
Ordered-given Q R h each [] o = tt
Ordered-given {A = A} Q R h each (x ∷ xs) o = by (h x) refl (Ordered-given Q R h each xs o.1)
  where
    by : (a : Option A) → h x ≡ a → Ordered R (filter_map h xs) → Ordered R (cons_option a (filter_map h xs))
    by (Some s) e rest = (All-given (Q x) (R s) h (λ y t q f. each x y s t q e f) xs o.0, rest)
    by None e rest = rest

Ordered-map : {A : Type 0} (R : A → A → Type 0) (f : ℕ → A) → ((x y : ℕ) → x < y → R (f x) (f y)) → (xs : List ℕ) → Ordered (λ x y. x < y) xs → Ordered R (map f xs)
Ordered-map R f each [] o = tt
Ordered-map R f each (x ∷ xs) o = (All-map (R (f x)) f xs (All-weaker (λ y. x < y) (λ y. R (f x) (f y)) (each x) xs o.0), Ordered-map R f each xs o.1)

above : (a b n : ℕ) → a < b → All (λ x. a < x) (range_with_len b n)
above a b zero less = All-nil (λ x. a < x)
above a b (suc n) less = All-cons (λ x. a < x) b (range_with_len (b + 1) n) less (above a (b + 1) n (omega arith))

pub Ordered-range : (a n : ℕ) → Ordered (λ x y. x < y) (range_with_len a n)
Ordered-range a zero = tt
Ordered-range a (suc n) = (above a (a + 1) n (omega arith), Ordered-range (a + 1) n)

-- the numbers that pass a test, each as something
pub Ordered-passing : {A : Type 0} (R : A → A → Type 0) (f : ℕ → A) → ((x y : ℕ) → x < y → R (f x) (f y)) → (p : ℕ → Bool) (n : ℕ) → Ordered R (map f (filter p (range_with_len 0 n)))
Ordered-passing R f each p n = Ordered-map R f each (filter p (range_with_len 0 n)) (Ordered-filter (λ x y. x < y) p (range_with_len 0 n) (Ordered-range 0 n))

-- pieces of which each stands before all that follow
module _ {A : Type 0} (R : A → A → Type 0) (key : A → ℕ) (Q : A → Type 0) (f : ℕ → List A) (apart : (s t : A) → Q s → Q t → key s < key t → R s t)
    (keys : (n : ℕ) → All (λ s. Q s × (key s ≡ n)) (f n)) where
  later : (a b n : ℕ) → a < b → All (λ t. Q t × (a < key t)) (flat_map f (range_with_len b n))
  later a b zero less = All-nil (λ t. Q t × (a < key t))
  later a b (suc n) less =
      All-append (λ t. Q t × (a < key t)) (f b) (flat_map f (range_with_len (b + 1) n))
      (All-weaker (λ s. Q s × (key s ≡ b)) (λ t. Q t × (a < key t)) (λ s h. (h.0, subst (λ (k : ℕ). a < k) (sym h.1) less)) (f b) (keys b))
      (later a (b + 1) n (omega arith))

  pub Ordered-pieces : ((n : ℕ) → Ordered R (f n)) → (a n : ℕ) → Ordered R (flat_map f (range_with_len a n))
  Ordered-pieces each a zero = tt
  Ordered-pieces each a (suc n) =
      let rest = flat_map f (range_with_len (a + 1) n) in
      Ordered-append R (f a) rest (each a) (Ordered-pieces each (a + 1) n)
      (All-weaker (λ s. Q s × (key s ≡ a)) (λ s. All (R s) rest)
      (λ s h. All-weaker (λ t. Q t × (a < key t)) (R s) (λ t g. apart s t h.0 g.0 (subst (λ (k : ℕ). k < key t) (sym h.1) g.1)) rest (later a (a + 1) n (omega arith)))
      (f a) (keys a))
