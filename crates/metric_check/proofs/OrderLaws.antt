-- Orders of own streams that rise, and name as many streams as there are, name all.
use Rattle.std.proofs.Common.{◌≡◌, ◌≢◌, ℕ, zero, suc, ◌+◌, ◌-◌, ◌<◌, Bool, true, false, ◌||◌, List, [], ◌∷◌, ◌++◌, length, drop, All, AllPairs, Contains, Decides, IsSomeAnd, get_or, Option, Some, None, slice_get, refl, sym, ap, subst, ◌∙◌, inl, inr, length-append, arith}
use Rattle.std.specs.List.{AllByRecursion, AllZip, IsDistinct, list_any, range_with_len}
use Rattle.std.specs.declared.cmp.Ordering.TheVariants.{Equal, Less}
use Rattle.std.proofs.Math.Dec.{eqb}
use Rattle.std.proofs.lemmas.Bool.{or_cases, or_parts}
use Rattle.std.proofs.lemmas.Bool.Decides.{eqb_tells}
use Rattle.std.proofs.lemmas.Cmp.{nat_eq_equiv, tied_itself}
use Rattle.std.proofs.lemmas.List.Elements.{All-contains, Contains-append_cases, Contains-append_left, Contains-append_right, Contains-get_or, at_from_Contains}
use Rattle.std.proofs.lemmas.List.FromFn.{length-range_with_len}
use Rattle.std.proofs.lemmas.Map.Keys.{IsDistinct-cons, IsDistinct-head, IsDistinct-tail}
use Rattle.std.proofs.lemmas.Map.Made.{IsDistinct-from_AllPairs}
use Rattle.std.proofs.lemmas.Map.Steps.{le-length_from_below, length-le_from_distinct_below}
use Rattle.std.proofs.lemmas.Map.Views.{Contains-from_any, list_any-from_Contains}
use Rattle.std.proofs.lemmas.Option.{slice_get_within}
use Rattle.std.proofs.lemmas.Slice.Zip.{AllZip-long}
use Rattle.metric_contents.specs.declared.contents.Contents.{Contents}
use Rattle.metric_views.specs.declared.config.Config.{Config}
use Rattle.metric_views.specs.declared.stream.Stream.{Stream}
use Rattle.metric_resolve.specs.Collisions.{Identity}
use Rattle.metric_resolve.specs.IdentityLaws.{identity_order_total}
use Rattle.metric_resolve.specs.Applying.{all_readers}
use Rattle.metric_resolve.specs.Resolved.{streams_of}
use Rattle.metric_cert.specs.declared.order.ReaderOrder.{ReaderOrder}
use Rattle.metric_cert.specs.Valid.{IsBelow, IsOrderOf, IsStreamOf}
use Rattle.metric_resolve.specs.Laws.{identity_at}
use Rattle.metric_check.specs.Rising.{AreOwnOrders, AreTested, IsOwnOrder, RisesTo, named_by}
use Rattle.metric_check.proofs.OwnStreams.{known_reader}
use Rattle.metric_check.proofs.Walks.{drop_at, there}

-- no identity is below itself
pub never_below : (o : Option Identity) → IsBelow o o → ⊥
never_below None p = p
never_below (Some x) p = not_both (sym p ∙ tied_itself identity_order_total x)
  where
    not_both : Less ≡ Equal → ⊥
    not_both e = cc

pub below_trans : (x y z : Option Identity) → IsBelow x y → IsBelow y z → IsBelow x z
below_trans (Some x) (Some y) (Some z) p q = identity_order_total.trans x y z p q
below_trans (Some x) (Some y) None p q = absurd q
below_trans (Some x) None z p q = absurd p
below_trans None y z p q = absurd p

-- the streams that orders name
names : List ReaderOrder → List ℕ
names [] = []
names (order ∷ orders) = order.streams ++ names orders

length-names : (orders : List ReaderOrder) → length (names orders) ≡ named_by orders
unfolding names
length-names [] = refl
length-names (order ∷ orders) = length-append order.streams (names orders) ∙ ap (λ (n : ℕ). length order.streams + n) (length-names orders)

-- The number is named by an order.
record NamedAt (orders : List ReaderOrder) (q : ℕ) : Type 0 where
  place : ℕ
  order : ReaderOrder
  at : slice_get orders place ≡ Some order
  within : Contains order.streams q

named_at : (orders : List ReaderOrder) (q : ℕ) → Contains (names orders) q → NamedAt orders q
unfolding names
named_at [] q p = let at = at_from_Contains [] q p in absurd (omega (arith, at.1))
named_at (order ∷ orders) q p =
    elim (Contains-append_cases order.streams (names orders) q p) [
      | inl h ↦ record { place = 0; order = order; at = refl; within = h }
      | inr h ↦ let later = named_at orders q h in record { place = suc later.place; order = later.order; at = later.at; within = later.within }
    ]

at_named : (orders : List ReaderOrder) (k q : ℕ) (order : ReaderOrder) → slice_get orders k ≡ Some order → Contains order.streams q → Contains (names orders) q
unfolding names
at_named [] k q order at p = absurd cc
at_named (first ∷ orders) zero q order at p =
    let same : first ≡ order = cc in
    Contains-append_left first.streams (names orders) q (subst (λ (o : ReaderOrder). Contains o.streams q) (sym same) p)
at_named (first ∷ orders) (suc k) q order at p = Contains-append_right first.streams (names orders) q (at_named orders k q order at p)

differ : (x y : ℕ) → x ≢ y → eqb x y ≡ false
differ x y other = elim (eqb_tells x y) [ inl h ↦ absurd (other h.1) | inr h ↦ h.0 ]

alike : (x y : ℕ) → eqb x y ≡ true → x ≡ y
alike x y e = elim (eqb_tells x y) [ inl h ↦ h.1 | inr h ↦ absurd (let both : true ≡ false = sym e ∙ h.0 in cc) ]

tells : (x y : ℕ) → Decides (eqb x y) (x ≡ y)
tells x y = elim (eqb_tells x y) [ inl h ↦ (λ e. h.1, λ e. h.0) | inr h ↦ (λ e. absurd (let both : true ≡ false = sym e ∙ h.0 in cc), λ e. absurd (h.1 e)) ]

apart_from : (x : ℕ) (ys : List ℕ) → ((y : ℕ) → Contains ys y → x ≢ y) → AllByRecursion (λ y. eqb x y ≡ false) ys
apart_from x [] apart = tt
apart_from x (y ∷ ys) apart =
    (differ x y (apart y (Contains-get_or (y ∷ ys) 0 y (omega arith))), apart_from x ys (λ z h. apart z (Contains-append_right (y ∷ []) ys z h)))

all_append : (P : ℕ → Type 0) (xs ys : List ℕ) → AllByRecursion P xs → AllByRecursion P ys → AllByRecursion P (xs ++ ys)
all_append P [] ys p q = q
all_append P (x ∷ xs) ys p q = (p.0, all_append P xs ys p.1 q)

distinct_nil : IsDistinct eqb []
unfolding IsDistinct
distinct_nil = tt

distinct_append : (xs ys : List ℕ) → IsDistinct eqb xs → IsDistinct eqb ys → ((x y : ℕ) → Contains xs x → Contains ys y → x ≢ y) → IsDistinct eqb (xs ++ ys)
distinct_append [] ys p q apart = q
distinct_append (x ∷ xs) ys p q apart =
    IsDistinct-cons eqb x (xs ++ ys)
    (all_append (λ y. eqb x y ≡ false) xs ys (IsDistinct-head eqb x xs p) (apart_from x ys (λ y h. apart x y (Contains-get_or (x ∷ xs) 0 x (omega arith)) h)))
    (distinct_append xs ys (IsDistinct-tail eqb x xs p) q (λ u v hu hv. apart u v (Contains-append_right (x ∷ []) xs u hu) hv))

none_is : (q : ℕ) (ys : List ℕ) → list_any (eqb q) ys ≡ false → AllByRecursion (λ y. eqb q y ≡ false) ys
none_is q [] e = tt
none_is q (y ∷ ys) e = let parts = or_parts (eqb q y) (list_any (eqb q) ys) e in (parts.0, none_is q ys parts.1)

-- n distinct numbers below n are all numbers below n
covers : (xs : List ℕ) (n : ℕ) → IsDistinct eqb xs → ((q : ℕ) → list_any (eqb q) xs ≡ true → q < n) → length xs ≡ n
    → (q : ℕ) → q < n → list_any (eqb q) xs ≡ true
covers xs n distinct below long q within = by (list_any (eqb q) xs) refl
  where
    below_all : (p : ℕ) → (eqb p q || list_any (eqb p) xs) ≡ true → p < n
    below_all p found =
        elim (or_cases (eqb p q) (list_any (eqb p) xs) found) [ inl h ↦ subst (λ (m : ℕ). m < n) (sym (alike p q h)) within | inr h ↦ below p h ]

    by : (b : Bool) → list_any (eqb q) xs ≡ b → b ≡ true
    by true e = refl
    by false e =
        let fits = length-le_from_distinct_below (q ∷ xs) n (IsDistinct-cons eqb q xs (none_is q xs e) distinct) below_all in
        absurd (omega (arith, fits, long))

-- facts of the elements of two lists, of which one is of numbers
zip_range : {Y : Type 0} (P : ℕ → Y → Type 0) (a n : ℕ) (ys : List Y) → length ys ≡ n → ((k : ℕ) (y : Y) → slice_get ys k ≡ Some y → P (a + k) y)
    → AllZip P (range_with_len a n) ys
zip_range P a zero [] long each = tt
zip_range P a zero (y ∷ ys) long each = absurd (omega (arith, long))
zip_range P a (suc n) [] long each = absurd (omega (arith, long))
zip_range P a (suc n) (y ∷ ys) long each =
    let here : a + 0 ≡ a = omega arith in (
      subst (λ (k : ℕ). P k y) here (each 0 y refl),
      zip_range P (a + 1) n ys (omega (arith, long)) (λ k z at. let next : a + suc k ≡ a + 1 + k = omega arith in subst (λ (m : ℕ). P m z) next (each (suc k) z at)),
    )

pub range_zip : {Y : Type 0} (P : ℕ → Y → Type 0) (a n : ℕ) (ys : List Y) → AllZip P (range_with_len a n) ys → (k : ℕ) (y : Y) → slice_get ys k ≡ Some y → P (a + k) y
range_zip P a zero [] zip k y at = absurd cc
range_zip P a zero (z ∷ zs) zip k y at = absurd zip
range_zip P a (suc n) [] zip k y at = absurd zip
range_zip P a (suc n) (z ∷ zs) zip zero y at =
    let here : a ≡ a + 0 = omega arith in
    let same : z ≡ y = cc in
    subst (λ (k : ℕ). P k y) here (subst (P a) same zip.0)
range_zip P a (suc n) (z ∷ zs) zip (suc k) y at =
    let next : a + 1 + k ≡ a + suc k = omega arith in
    subst (λ (m : ℕ). P m y) next (range_zip P (a + 1) n zs zip.1 k y at)

pub length-zip_range : {Y : Type 0} (P : ℕ → Y → Type 0) (a n : ℕ) (ys : List Y) → AllZip P (range_with_len a n) ys → length ys ≡ n
length-zip_range P a n ys zip = AllZip-long P (range_with_len a n) ys zip ∙ length-range_with_len a n

module _ (contents : Contents) (streams : List Stream) where
  -- a number is of a stream of one reader
  pub one_reader : (r s q : ℕ) → IsStreamOf streams r q → IsStreamOf streams s q → r ≡ s
  one_reader r s q p o = by (slice_get streams q) p o
    where
      by : (found : Option Stream) → IsSomeAnd found (λ stream. stream.reader ≡ r) → IsSomeAnd found (λ stream. stream.reader ≡ s) → r ≡ s
      by None p o = absurd p
      by (Some stream) p o = sym p ∙ o

  stream_within : (r q : ℕ) → IsStreamOf streams r q → q < length streams
  stream_within r q p = by (slice_get streams q) refl p
    where
      by : (found : Option Stream) → slice_get streams q ≡ found → IsSomeAnd found (λ stream. stream.reader ≡ r) → q < length streams
      by None at p = absurd p
      by (Some stream) at p = slice_get_within streams q stream at

  rising_distinct : (xs : List ℕ) → AllPairs (RisesTo contents streams) xs → IsDistinct eqb xs
  rising_distinct xs rising =
      IsDistinct-from_AllPairs {eq = eqb} tells xs
      (λ i j d less within same.
      never_below (identity_at contents streams (get_or xs j d))
      (subst (λ (n : ℕ). RisesTo contents streams n (get_or xs j d)) same (rising i j d less within)))

  OwnFrom : ℕ → List ReaderOrder → Type 0
  OwnFrom a orders = (k : ℕ) (order : ReaderOrder) → slice_get orders k ≡ Some order → IsOwnOrder contents streams (a + k) order

  -- a number that is named is of a stream of its order's reader
  named_own : (a : ℕ) (orders : List ReaderOrder) → OwnFrom a orders → (q : ℕ) → (named : NamedAt orders q) → IsStreamOf streams (a + named.place) q
  unfolding OwnFrom
  named_own a orders own q named = All-contains (IsStreamOf streams (a + named.place)) named.order.streams q (own named.place named.order named.at).own named.within

  distinct_from : (a : ℕ) (orders : List ReaderOrder) → OwnFrom a orders → IsDistinct eqb (names orders)
  unfolding names OwnFrom
  distinct_from a [] own = distinct_nil
  distinct_from a (order ∷ orders) own =
      distinct_append order.streams (names orders) (rising_distinct order.streams (own 0 order refl).rising)
      (distinct_from (a + 1) orders
      (λ k o at. let next : a + suc k ≡ a + 1 + k = omega arith in subst (λ (r : ℕ). IsOwnOrder contents streams r o) next (own (suc k) o at)))
      (λ x y here later same.
      let first = All-contains (IsStreamOf streams (a + 0)) order.streams x (own 0 order refl).own here in
      let named = named_at orders y later in
      let other = All-contains (IsStreamOf streams (a + suc named.place)) named.order.streams y (own (suc named.place) named.order named.at).own named.within in
      let readers = one_reader (a + 0) (a + suc named.place) y (subst (IsStreamOf streams (a + 0)) same first) other in
      omega (arith, readers))

  below_all : (orders : List ReaderOrder) → AreOwnOrders contents streams orders → (q : ℕ) → list_any (eqb q) (names orders) ≡ true → q < length streams
  below_all orders own q found =
      let named = named_at orders q (Contains-from_any {eq = eqb} alike q (names orders) found) in
      stream_within named.place q
      (All-contains (IsStreamOf streams named.place) named.order.streams q (own named.place named.order named.at).own named.within)

  own_from_first : (orders : List ReaderOrder) → AreOwnOrders contents streams orders → OwnFrom 0 orders
  unfolding OwnFrom
  own_from_first orders own k order at = let here : k ≡ 0 + k = omega arith in subst (λ (r : ℕ). IsOwnOrder contents streams r order) here (own k order at)

  pub orders_all : (n : ℕ) (orders : List ReaderOrder) → length orders ≡ n → AreOwnOrders contents streams orders → named_by orders ≡ length streams
      → AllZip (IsOrderOf contents streams) (range_with_len 0 n) orders
  orders_all n orders long own count = zip_range (IsOrderOf contents streams) 0 n orders long each
    where
      each : (k : ℕ) (order : ReaderOrder) → slice_get orders k ≡ Some order → IsOrderOf contents streams (0 + k) order
      each k order at =
          let here : 0 + k ≡ k = omega arith in
          let of = own k order at in
          let is : IsOrderOf contents streams k order = record {
            numbered = of.numbered;
            own = of.own;
            all = λ number is.
                let within = stream_within k number is in
                let found =
                covers (names orders) (length streams) (distinct_from 0 orders (own_from_first orders own)) (below_all orders own) (length-names orders ∙ count) number within in
                let named = named_at orders number (Contains-from_any {eq = eqb} alike number (names orders) found) in
                let other = All-contains (IsStreamOf streams named.place) named.order.streams number (own named.place named.order named.at).own named.within in
                let place = one_reader named.place k number other is in
                let same : named.order ≡ order = some_is named.order order (sym named.at ∙ ap (slice_get orders) place ∙ at) in
                subst (λ (o : ReaderOrder). Contains o.streams number) same named.within;
            rising = of.rising;
          } in
          subst (λ (r : ℕ). IsOrderOf contents streams r order) (sym here) is
        where
          some_is : (x y : ReaderOrder) → Some x ≡ Some y → x ≡ y
          some_is x y e = cc

  pub all_own : (n : ℕ) (orders : List ReaderOrder) → AllZip (IsOrderOf contents streams) (range_with_len 0 n) orders → AreOwnOrders contents streams orders
  all_own n orders zip k order at =
      let of = range_zip (IsOrderOf contents streams) 0 n orders zip k order at in
      let here : 0 + k ≡ k = omega arith in
      record { numbered = of.numbered ∙ here; own = subst (λ (r : ℕ). All (IsStreamOf streams r) order.streams) here of.own; rising = of.rising }

  pub all_named : (n : ℕ) (orders : List ReaderOrder) → ((k : ℕ) (stream : Stream) → slice_get streams k ≡ Some stream → stream.reader < n)
      → AllZip (IsOrderOf contents streams) (range_with_len 0 n) orders → named_by orders ≡ length streams
  all_named n orders known zip =
      let own = all_own n orders zip in
      let most = length-le_from_distinct_below (names orders) (length streams) (distinct_from 0 orders (own_from_first orders own)) (below_all orders own) in
      let least = le-length_from_below (names orders) (length streams) each in
      let same = length-names orders in
      omega (arith, most, least, same)
    where
      each : (q : ℕ) → q < length streams → list_any (eqb q) (names orders) ≡ true
      each q within =
          let stream = there streams q within in
          let reader = stream.element.reader in
          let long = length-zip_range (IsOrderOf contents streams) 0 n orders zip in
          let inside : reader < length orders = omega (arith, long, known q stream.element stream.at) in
          let order = there orders reader inside in
          let of = range_zip (IsOrderOf contents streams) 0 n orders zip reader order.element order.at in
          let here : reader ≡ 0 + reader = omega arith in
          let is : IsStreamOf streams (0 + reader) q = rw (stream.at) here in
          list_any-from_Contains {eq = eqb} nat_eq_equiv q (names orders) (at_named orders reader q order.element order.at (of.all q is))

-- orders that are right pass the test
pub orders_pass : (contents : Contents) (config : Config) (streams : List Stream) (orders : List ReaderOrder) → streams ≡ streams_of contents config
    → AllZip (IsOrderOf contents streams) (all_readers config) orders → AreTested contents config streams orders
orders_pass contents config streams orders same zip =
    let n = length config.readers in (
      length-zip_range (IsOrderOf contents streams) 0 n orders zip,
      all_own contents streams n orders zip,
      all_named contents streams n orders
          (λ k stream at. known_reader contents config k stream (ap (λ (ss : List Stream). slice_get ss k) (sym same) ∙ at)) zip,
    )

-- orders that pass the test are right
pub orders_right : (contents : Contents) (config : Config) (streams : List Stream) (orders : List ReaderOrder) → AreTested contents config streams orders
    → AllZip (IsOrderOf contents streams) (all_readers config) orders
orders_right contents config streams orders tested = orders_all contents streams (length config.readers) orders tested.0 tested.1 tested.2

-- The identities of neighbours up to a place rise.
abbrev pub RiseUpTo : Contents → List Stream → List ℕ → ℕ → Type 0
RiseUpTo contents streams numbers n = (k : ℕ) → k + 1 < n → RisesTo contents streams (get_or numbers k 0) (get_or numbers (k + 1) 0)

same_within : (xs : List ℕ) (k d e : ℕ) → k < length xs → get_or xs k d ≡ get_or xs k e
same_within [] k d e within = absurd (omega arith)
same_within (x ∷ xs) zero d e within = refl
same_within (x ∷ xs) (suc k) d e within = same_within xs k d e (omega arith)

rise_from : (contents : Contents) (streams : List Stream) (numbers : List ℕ) → RiseUpTo contents streams numbers (length numbers)
    → (i more : ℕ) → i + 1 + more < length numbers → RisesTo contents streams (get_or numbers i 0) (get_or numbers (i + 1 + more) 0)
rise_from contents streams numbers rise i zero within =
    let here : i + 1 + 0 ≡ i + 1 = omega arith in
    rw here (rise i (omega (arith, within)))
rise_from contents streams numbers rise i (suc more) within =
    let here : i + 1 + suc more ≡ i + 1 + more + 1 = omega arith in
    rw here
    (below_trans (identity_at contents streams (get_or numbers i 0)) (identity_at contents streams (get_or numbers (i + 1 + more) 0)) (identity_at contents streams (get_or numbers (i + 1 + more + 1) 0))
    (rise_from contents streams numbers rise i more (omega (arith, within))) (rise (i + 1 + more) (omega (arith, within))))

-- where neighbours rise, all do
pub all_rise : (contents : Contents) (streams : List Stream) (numbers : List ℕ) → RiseUpTo contents streams numbers (length numbers) → AllPairs (RisesTo contents streams) numbers
all_rise contents streams numbers rise i j d less within =
    let later : i + 1 + (j - (i + 1)) ≡ j = omega arith in
    let first = same_within numbers i 0 d (omega arith) in
    let second = same_within numbers j 0 d within in
    let rises = rise_from contents streams numbers rise i (j - (i + 1)) (omega arith) in
    subst (λ (n : ℕ). RisesTo contents streams n (get_or numbers j d)) first
    (subst (λ (n : ℕ). RisesTo contents streams (get_or numbers i 0) n) second
    (subst (λ (k : ℕ). RisesTo contents streams (get_or numbers i 0) (get_or numbers k 0)) later rises))
