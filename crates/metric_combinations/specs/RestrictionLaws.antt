-- Set keys that are put at their places rise, and are those that were put. There are no more of
-- them than of any list that has them all.
use Rattle.std.proofs.Common.{◌≡◌, Ordering, Less, Equal, Greater, ℕ, Bool, true, false, ◌||◌, List}
use Rattle.std.proofs.Common.{[], ◌∷◌, map, refl, sym, ap, subst, ◌∙◌, ◌≤◌, length, rules}
use Rattle.std.proofs.lemmas.Cmp.{nat_list_cmp_total, nat_list_eq_equiv}
use Rattle.std.proofs.lemmas.Map.Keys.{IsDistinct-from_sorted}
use Rattle.std.proofs.lemmas.Map.Made.{length-le_from_is_member}
use Rattle.std.proofs.lemmas.Map.Lookups.{btree_set_from_contains, exact_bytes}
use Rattle.std.specs.Cmp.Lexicographic.{slice_cmp, lists_ties}
use Rattle.std.specs.List.{AllByRecursion, IsDistinct, list_any}
use Rattle.std.specs.List.Sorted.{IsStrictlySortedBy}
use Rattle.std.specs.Ordering.{nat_cmp, match_ordering, ordering_reverse, eq_by_cmp, is_eq}
use Rattle.std.specs.Prelude.{fold, nat_eq}
use Rattle.std.specs.Str.{bytes_eq}
use Rattle.metric_combinations.specs.Combinations.{allows}
use Rattle.metric_combinations.specs.Restrictions.{restricted, with_set, restrictions}
use Rattle.metric_combinations.specs.Restrictions.{AreRestrictions}

abbrev order : List ℕ → List ℕ → Ordering
order = slice_cmp nat_cmp

-- the order of numbers ties where they are equal
nat_tied : (x y : ℕ) → nat_eq x y ≡ eq_by_cmp nat_cmp x y
nat_tied x y = search rules

-- set keys tie where they are equal
pub sets_tied : (a b : List ℕ) → is_eq (slice_cmp nat_cmp a b) ≡ bytes_eq a b
sets_tied a b = sym (lists_ties nat_cmp nat_tied a b)

all_put : (P : List ℕ → Type 0) (sets : List (List ℕ)) (set : List ℕ) → AllByRecursion P sets
    → P set → AllByRecursion P (with_set sets set)
all_put P [] set all own = (own, tt)
all_put P (first ∷ sets) set all own = at (order set first) (all_put P sets set all.1 own)
  where
    at : (o : Ordering) → AllByRecursion P (with_set sets set) → AllByRecursion P
        (match_ordering o (set ∷ first ∷ sets) (first ∷ sets) (first ∷ with_set sets set))
    at Less rest = (own, all)
    at Equal rest = all
    at Greater rest = (all.0, rest)

-- what is above the second is above the first
all_above : (set first : List ℕ) (sets : List (List ℕ)) → order set first ≡ Less → AllByRecursion
    (λ y. order first y ≡ Less) sets → AllByRecursion (λ y. order set y ≡ Less) sets
all_above set first [] less all = tt
all_above set first (y ∷ sets) less all =
    (nat_list_cmp_total.trans set first y less all.0, all_above set first sets less all.1)

rising_put : (sets : List (List ℕ)) (set : List ℕ) → IsStrictlySortedBy order sets
    → IsStrictlySortedBy order (with_set sets set)
unfolding IsStrictlySortedBy
rising_put [] set rising = (tt, tt)
rising_put (first ∷ sets) set rising = at (order set first) refl (rising_put sets set rising.1)
  where
    at : (o : Ordering) → order set first ≡ o → IsStrictlySortedBy order (with_set sets set)
        → IsStrictlySortedBy order
        (match_ordering o (set ∷ first ∷ sets) (first ∷ sets) (first ∷ with_set sets set))
    at Less e rest = ((e, all_above set first sets e rising.0), rising)
    at Equal e rest = rising
    at Greater e rest = (
      all_put (λ y. order first y ≡ Less) sets set rising.0
          (nat_list_cmp_total.antisymm first set ∙ ap ordering_reverse e),
      rest,
    )

rising_fold : (sets more : List (List ℕ)) → IsStrictlySortedBy order sets
    → IsStrictlySortedBy order (fold with_set sets more)
rising_fold sets [] rising = rising
rising_fold sets (set ∷ more) rising =
    rising_fold (with_set sets set) more (rising_put sets set rising)

twice : (a b : Bool) → (a || b) ≡ (a || (a || b))
twice true b = refl
twice false b = refl

turned : (a b c : Bool) → (a || (b || c)) ≡ (b || (a || c))
turned true true c = refl
turned true false c = refl
turned false true c = refl
turned false false c = refl

members_put : (sets : List (List ℕ)) (set other : List ℕ)
    → allows (with_set sets set) other ≡ (bytes_eq set other || allows sets other)
members_put [] set other = refl
members_put (first ∷ sets) set other = at (order set first) refl (members_put sets set other)
  where
    at : (o : Ordering) → order set first ≡ o
        → allows (with_set sets set) other ≡ (bytes_eq set other || allows sets other)
        → allows (match_ordering o (set ∷ first ∷ sets) (first ∷ sets) (first ∷ with_set sets set))
        other ≡ (bytes_eq set other || (bytes_eq first other || allows sets other))
    at Less e rest = refl
    at Equal e rest =
        twice (bytes_eq first other) (allows sets other)
        ∙ ap (λ s. bytes_eq s other || (bytes_eq first other || allows sets other))
        (sym (exact_bytes set first e))
    at Greater e rest =
        ap (λ b. bytes_eq first other || b) rest
        ∙ turned (bytes_eq first other) (bytes_eq set other) (allows sets other)

members_fold : (sets more : List (List ℕ)) (other : List ℕ)
    → allows (fold with_set sets more) other ≡ (allows sets other || allows more other)
members_fold sets [] other = or_false (allows sets other)
  where
    or_false : (b : Bool) → b ≡ (b || false)
    or_false true = refl
    or_false false = refl
members_fold sets (set ∷ more) other =
    members_fold (with_set sets set) more other
    ∙ ap (λ b. b || allows more other) (members_put sets set other)
    ∙ regroup (bytes_eq set other) (allows sets other) (allows more other)
  where
    regroup : (a b c : Bool) → ((a || b) || c) ≡ (b || (a || c))
    regroup true true c = refl
    regroup true false c = refl
    regroup false b c = refl

pub listed : (kept : List Bool) (rows : List (List ℕ))
    → AreRestrictions kept rows (restrictions kept rows)
unfolding IsStrictlySortedBy
listed kept rows = record {
  rising = rising_fold [] (map (restricted kept) rows) tt;
  members = λ set. members_fold [] (map (restricted kept) rows) set;
}

-- whether a set key is in a list, asked the other way round
has_is : (set : List ℕ) (sets : List (List ℕ))
    → list_any (λ k. is_eq (order set k)) sets ≡ allows sets set
has_is set sets = λ i. list_any (λ k. (sets_tied set k ∙ flipped k) i) sets
  where
    flipped : (k : List ℕ) → bytes_eq set k ≡ bytes_eq k set
    flipped k = nat_list_eq_equiv.symm set k

asked : (set : List ℕ) (sets : List (List ℕ)) → list_any (bytes_eq set) sets ≡ allows sets set
asked set sets = λ i. list_any (λ k. nat_list_eq_equiv.symm set k i) sets

pub only : (kept : List Bool) (rows list : List (List ℕ)) → AreRestrictions kept rows list
    → list ≡ restrictions kept rows
only kept rows list are =
    let same = listed kept rows in
    btree_set_from_contains nat_list_cmp_total (record { keys = list })
    (record { keys = restrictions kept rows }) are.rising same.rising
    (λ set. has_is set list ∙ are.members set ∙ sym (same.members set)
    ∙ sym (has_is set (restrictions kept rows)))
    exact_bytes

-- distinct set keys of which each is in a list are no more than the list has
pub distinct_within : (sets all : List (List ℕ)) → IsDistinct bytes_eq sets
    → ((set : List ℕ) → allows sets set ≡ true → allows all set ≡ true) → length sets ≤ length all
distinct_within sets all distinct each =
    length-le_from_is_member nat_list_eq_equiv sets all distinct
    (λ set own. asked set all ∙ each set (sym (asked set sets) ∙ own))

-- rising set keys are distinct
pub rising_distinct : (sets : List (List ℕ)) → IsStrictlySortedBy (slice_cmp nat_cmp) sets
    → IsDistinct bytes_eq sets
rising_distinct sets rising =
    subst (λ (same : List ℕ → List ℕ → Bool). IsDistinct same sets) (λ i a b. sets_tied a b i)
    (IsDistinct-from_sorted (slice_cmp nat_cmp) sets rising)

-- distinct set keys that are restrictions of rows are no more than the restrictions
pub within_restrictions : (kept : List Bool) (rows sets : List (List ℕ)) → IsDistinct bytes_eq sets
    → ((set : List ℕ) → allows sets set ≡ true → allows (map (restricted kept) rows) set ≡ true)
    → length sets ≤ length (restrictions kept rows)
within_restrictions kept rows sets distinct each =
    distinct_within sets (restrictions kept rows) distinct
    (λ set own. (listed kept rows).members set ∙ each set own)

-- the restrictions of rows are no more than a list has that has each of them
pub restrictions_within : (kept : List Bool) (rows all : List (List ℕ))
    → ((set : List ℕ) → allows (map (restricted kept) rows) set ≡ true → allows all set ≡ true)
    → length (restrictions kept rows) ≤ length all
restrictions_within kept rows all each =
    let are = listed kept rows in
    distinct_within (restrictions kept rows) all
    (rising_distinct (restrictions kept rows) are.rising)
    (λ set own. each set (sym (are.members set) ∙ own))
