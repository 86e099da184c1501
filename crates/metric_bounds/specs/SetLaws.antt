-- The allowed combinations leave no more sets of the kept keys than the product.
use Rattle.std.proofs.Common.{
  ◌≡◌,
  ◌≤◌,
  ◌<◌,
  ◌+◌,
  ◌-◌,
  ◌*◌,
  ℕ,
  zero,
  suc,
  Bool,
  true,
  false,
  ◌||◌,
  ◌==◌,
  if◌then◌else◌,
  All,
  List,
  [],
  ◌∷◌,
  ◌++◌,
  length,
  length-append,
  map,
  Option,
  Some,
  None,
  IfSome,
  refl,
  sym,
  ap,
  subst,
  ◌∙◌,
  arith,
  get_or,
}
use Rattle.std.specs.Prelude.{nat_eq, nat_le, slice_get}
use Rattle.std.specs.List.{list_all, list_any, range_with_len}
use Rattle.std.specs.Option.{option_map}
use Rattle.std.specs.Str.{bytes_eq}
use Rattle.std.proofs.lemmas.Bool.{and_parts, eq-eqb, eqb-true, leb-true, or_left, or_right}
use Rattle.std.proofs.lemmas.List.{length-map}
use Rattle.std.proofs.lemmas.List.Elements.{All-get_or, All-head, All-tail}
use Rattle.std.proofs.lemmas.List.Folds.{list_any-append, list_any_at}
use Rattle.std.proofs.lemmas.List.FromFn.{get_or-range_with_len, length-range_with_len}
use Rattle.std.proofs.lemmas.Option.{get_or_from_slice_get, slice_get_within}
use Rattle.std.proofs.lemmas.Slice.Eq.{bytes_eq-Decides}
use Rattle.metric_combinations.specs.Combinations.{allows}
use Rattle.metric_combinations.specs.Restrictions.{restricted, restrictions}
use Rattle.metric_combinations.specs.RestrictionLaws.{restrictions_within}
use Rattle.metric_contents.specs.KeySets.{is_key_set}
use Rattle.metric_catalogue.specs.Sound.{AreSoundRows, IsSound, IsSoundInstrument, IsSoundRow}
use Rattle.metric_contents.specs.declared.contents.Contents.{Contents}
use Rattle.metric_contents.specs.declared.contents.Instrument.{Instrument}
use Rattle.metric_contents.specs.declared.contents.Key.{Key}
use Rattle.metric_views.specs.declared.stream.Stream.{Stream}
use Rattle.metric_bounds.specs.Sets.{FlagsEach, FlagsKeys, count_or, factor_of, list_within}
use Rattle.metric_bounds.specs.Sets.{listed_of, product_of, product_over, product_within, sets_of}

-- ---- all series of the kept keys, in a list as long as the product

-- what may stand for a key in a series
abbrev choices_by : Bool → Bool → ℕ → List ℕ
choices_by false optional values = 0 ∷ []
choices_by true true values = range_with_len 0 (values + 1)
choices_by true false values = range_with_len 1 values

-- each number before each of the sets
abbrev with_each : List ℕ → List (List ℕ) → List (List ℕ)
with_each [] sets = []
with_each (entry ∷ entries) sets = map (λ set. entry ∷ set) sets ++ with_each entries sets

-- so many numbers 0
abbrev zeros : ℕ → List ℕ
zeros zero = []
zeros (suc n) = 0 ∷ zeros n

-- the series of sets of so many numbers
abbrev all_series : ℕ → List Bool → List Key → List (List ℕ)
all_series long [] keys = zeros long ∷ []
all_series long (flag ∷ kept) [] = zeros long ∷ []
all_series long (flag ∷ kept) (key ∷ keys) =
    with_each (choices_by flag key.optional (length key.values)) (all_series (long - 1) kept keys)

length-choices : (flag optional : Bool) (values : ℕ) → length (choices_by flag optional values)
    ≡ (if flag then values + (if optional then 1 else 0) else 1)
length-choices false optional values = refl
length-choices true true values = length-range_with_len 0 (values + 1)
length-choices true false values = length-range_with_len 1 values ∙ plain values
  where
    plain : (n : ℕ) → n ≡ n + 0
    plain n = omega arith

length-with_each : (entries : List ℕ) (sets : List (List ℕ))
    → length (with_each entries sets) ≡ length entries * length sets
length-with_each [] sets = omega arith
length-with_each (entry ∷ entries) sets =
    omega (
      arith,
      length-append (map (λ set. entry ∷ set) sets) (with_each entries sets),
      length-map sets (λ set. entry ∷ set),
      length-with_each entries sets,
    )

length-all_series : (long : ℕ) (kept : List Bool) (keys : List Key)
    → length (all_series long kept keys) ≡ product_over kept keys
length-all_series long [] keys = refl
length-all_series long (flag ∷ kept) [] = refl
length-all_series long (flag ∷ kept) (key ∷ keys) =
    length-with_each (choices_by flag key.optional (length key.values))
    (all_series (long - 1) kept keys)
    ∙ ap (λ (n : ℕ). n * length (all_series (long - 1) kept keys))
    (length-choices flag key.optional (length key.values))
    ∙ ap (λ (n : ℕ). factor_of flag key * n) (length-all_series (long - 1) kept keys)

-- ---- each series of a full set is in the list

is_zero : (n : ℕ) → (n == 0) ≡ true → n ≡ 0
is_zero n e = eqb-true n 0 e

ranged : (first many entry : ℕ) → first ≤ entry → entry < first + many
    → list_any (λ c. nat_eq c entry) (range_with_len first many) ≡ true
ranged first many entry from below =
    let within : entry - first < many = omega arith in
    let inside : entry - first < length (range_with_len first many) =
    omega (arith, length-range_with_len first many) in
    let here : get_or (range_with_len first many) (entry - first) 0 ≡ entry =
    omega (arith, get_or-range_with_len first many (entry - first) 0 within) in
    list_any_at (λ c. nat_eq c entry) (range_with_len first many) (entry - first) 0 inside
    (eq-eqb (get_or (range_with_len first many) (entry - first) 0) entry here)

either : {P : Type 0} (t : Bool) → (t ≡ true → P) → (t ≡ false → P) → P
either true yes_then no_then = yes_then refl
either false yes_then no_then = no_then refl

chosen : (flag optional : Bool) (values entry : ℕ)
    → (if entry == 0 then optional else nat_le entry values) ≡ true
    → list_any (λ c. nat_eq c (if flag then entry else 0)) (choices_by flag optional values) ≡ true
chosen false optional values entry full = refl
chosen true true values entry full =
    either (entry == 0)
    (λ none. let is : entry ≡ 0 = is_zero entry none in
    ranged 0 (values + 1) entry (omega arith) (omega (arith, is)))
    (λ some. let below : entry ≤ values = leb-true entry values (given some full) in
    ranged 0 (values + 1) entry (omega arith) (omega (arith, below)))
  where
    given : (entry == 0) ≡ false → (if entry == 0 then true else nat_le entry values) ≡ true
        → nat_le entry values ≡ true
    given some full = sym (ap (λ (b : Bool). if b then true else nat_le entry values) some) ∙ full
chosen true false values entry full =
    either (entry == 0)
    (λ none.
    absurd (never (sym (ap (λ (b : Bool). if b then false else nat_le entry values) none) ∙ full)))
    (λ some.
    let below : entry ≤ values = leb-true entry values
    (sym (ap (λ (b : Bool). if b then false else nat_le entry values) some) ∙ full) in
    let above : 1 ≤ entry = positive entry some in
    ranged 1 values entry above (omega (arith, below)))
  where
    never : false ≡ true → ⊥
    never e = cc

    positive : (n : ℕ) → (n == 0) ≡ false → 1 ≤ n
    positive zero e = absurd cc
    positive (suc n) e = omega arith

-- a set with a number before it is among those with that number before them
before_each : (entry other : ℕ) (sets : List (List ℕ)) (set : List ℕ) → nat_eq entry other ≡ true
    → allows sets set ≡ true → allows (map (λ s. entry ∷ s) sets) (other ∷ set) ≡ true
before_each entry other [] set same there = absurd cc
before_each entry other (first ∷ sets) set same there =
    by (bytes_eq first set) refl there (before_each entry other sets set same)
  where
    by : (b : Bool) → bytes_eq first set ≡ b → (b || allows sets set) ≡ true
        → (allows sets set ≡ true → allows (map (λ s. entry ∷ s) sets) (other ∷ set) ≡ true)
        → allows (map (λ s. entry ∷ s) (first ∷ sets)) (other ∷ set) ≡ true
    by true e there later = rw (same, e) refl
    by false e there later = rw (same, e) (later there)

among_each : (entries : List ℕ) (sets : List (List ℕ)) (entry : ℕ) (set : List ℕ)
    → list_any (λ c. nat_eq c entry) entries ≡ true → allows sets set ≡ true
    → allows (with_each entries sets) (entry ∷ set) ≡ true
among_each [] sets entry set has there = absurd cc
among_each (c ∷ entries) sets entry set has there =
    list_any-append (λ row. bytes_eq row (entry ∷ set)) (map (λ s. c ∷ s) sets)
    (with_each entries sets)
    ∙ by (nat_eq c entry) refl has (λ more. among_each entries sets entry set more there)
  where
    by : (b : Bool) → nat_eq c entry ≡ b → (b || list_any (λ d. nat_eq d entry) entries) ≡ true
        → (list_any (λ d. nat_eq d entry) entries ≡ true
        → allows (with_each entries sets) (entry ∷ set) ≡ true)
        → (allows (map (λ s. c ∷ s) sets) (entry ∷ set)
        || allows (with_each entries sets) (entry ∷ set)) ≡ true
    by true e has later = or_left _ _ (before_each c entry sets set e there)
    by false e has later = or_right _ _ (later has)

all_zero : (set : List ℕ) → list_all (λ entry. entry == 0) set ≡ true
    → bytes_eq (zeros (length set)) set ≡ true
all_zero [] e = refl
all_zero (zero ∷ set) e = all_zero set e
all_zero (suc n ∷ set) e =
    let none : suc n ≡ 0 =
    is_zero (suc n) (and_parts (suc n == 0) (list_all (λ entry. entry == 0) set) e).0 in
    absurd (omega (arith, none))

has_series : (long : ℕ) (kept : List Bool) (keys : List Key) (set : List ℕ)
    → length kept ≡ length keys → length set ≡ long → is_key_set keys set ≡ true
    → allows (all_series long kept keys) (restricted kept set) ≡ true
has_series long [] [] set flags is full =
    let same : bytes_eq (zeros long) set ≡ true =
    subst (λ (n : ℕ). bytes_eq (zeros n) set ≡ true) is (all_zero set full) in
    or_left _ _ same
has_series long [] (key ∷ keys) set flags is full = absurd (omega (arith, flags))
has_series long (flag ∷ kept) [] set flags is full = absurd (omega (arith, flags))
has_series long (flag ∷ kept) (key ∷ keys) [] flags is full = absurd cc
has_series long (flag ∷ kept) (key ∷ keys) (entry ∷ set) flags is full =
    let parts = and_parts (if entry == 0 then key.optional else nat_le entry (length key.values))
    (is_key_set keys set) full in
    among_each (choices_by flag key.optional (length key.values)) (all_series (long - 1) kept keys)
    (if flag then entry else 0) (restricted kept set)
    (chosen flag key.optional (length key.values) entry parts.0)
    (has_series (long - 1) kept keys set (omega (arith, flags)) (omega (arith, is)) parts.1)

-- ---- the series of rows

each_series : (kept : List Bool) (keys : List Key) (rows : List (List ℕ))
    → length kept ≡ length keys → All (IsSoundRow keys) rows
    → (set : List ℕ) → allows (map (restricted kept) rows) set ≡ true
    → allows (all_series 8 kept keys) set ≡ true
each_series kept keys [] flags sound set there = absurd cc
each_series kept keys (row ∷ rows) flags sound set there =
    by (bytes_eq (restricted kept row) set) refl there
    (each_series kept keys rows flags (All-tail (IsSoundRow keys) row rows sound) set)
  where
    by : (b : Bool) → bytes_eq (restricted kept row) set ≡ b
        → (b || allows (map (restricted kept) rows) set) ≡ true
        → (allows (map (restricted kept) rows) set ≡ true
        → allows (all_series 8 kept keys) set ≡ true) → allows (all_series 8 kept keys) set ≡ true
    by true e there later =
        subst (λ (s : List ℕ). allows (all_series 8 kept keys) s ≡ true)
        ((bytes_eq-Decides (restricted kept row) set).0 e)
        (let own = All-head (IsSoundRow keys) row rows sound in
        has_series 8 kept keys row flags own.long own.full)
    by false e there later = later there

-- what sound rows leave is no more than the product
pub restrictions_within_product : (kept : List Bool) (keys : List Key) (rows : List (List ℕ))
    → length kept ≡ length keys → AreSoundRows keys rows
    → length (restrictions kept rows) ≤ product_over kept keys
restrictions_within_product kept keys rows flags sound =
    let few = restrictions_within kept rows (all_series 8 kept keys)
    (each_series kept keys rows flags sound.each) in
    omega (arith, few, length-all_series 8 kept keys)

-- so a stream sees no more sets than the product
pub sets_within_product : (contents : Contents) (stream : Stream) → IsSound contents
    → FlagsKeys contents stream → sets_of contents stream ≤ product_of contents stream
unfolding sets_of listed_of product_of
sets_within_product contents stream sound flags =
    by (slice_get contents.instruments stream.instrument) refl flags
  where
    rows_within : (instrument : Instrument) (allowed : Option (List (List ℕ))) → IfSome allowed
        (AreSoundRows instrument.keys) → length stream.kept ≡ length instrument.keys
        → count_or (product_over stream.kept instrument.keys)
        (option_map (restrictions stream.kept) allowed) ≤ product_over stream.kept instrument.keys
    rows_within instrument None own flags = omega arith
    rows_within instrument (Some rows) own flags =
        restrictions_within_product stream.kept instrument.keys rows flags own

    by : (o : Option Instrument) → slice_get contents.instruments stream.instrument ≡ o
        → FlagsEach stream o
        → count_or (product_within stream o) (list_within stream o) ≤ product_within stream o
    by None at flags = omega arith
    by (Some instrument) at flags =
        let same : get_or contents.instruments stream.instrument instrument ≡ instrument =
        get_or_from_slice_get contents.instruments stream.instrument instrument instrument at in
        let own : IsSoundInstrument (length contents.meters) instrument =
        subst (IsSoundInstrument (length contents.meters)) same
        (All-get_or (IsSoundInstrument (length contents.meters)) contents.instruments
        stream.instrument instrument (slice_get_within contents.instruments stream.instrument
        instrument at) sound.instruments.each) in
        rows_within instrument instrument.allowed own.allowed flags
