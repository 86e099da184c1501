-- What is left of allowed combinations where some keys are not kept.
use Rattle.std.specs.Prelude.{◌≡◌, ℕ, Bool, List, [], ◌∷◌, fold, map, if◌then◌else◌}
use Rattle.std.specs.BTreeSet.{insert_key}
use Rattle.std.specs.Cmp.Lexicographic.{slice_cmp}
use Rattle.std.specs.List.Sorted.{IsStrictlySortedBy}
use Rattle.std.specs.Ordering.{nat_cmp}
use Rattle.metric_combinations.specs.Combinations.{allows}

-- # restricted (SDK, stream configuration)
-- A set key with 0 in place of each key that is not kept.
abbrev pub restricted : List Bool → List ℕ → List ℕ
restricted [] set = set
restricted (keep ∷ kept) [] = []
restricted (keep ∷ kept) (x ∷ set) = (if keep then x else 0) ∷ restricted kept set

-- rising set keys, with one more at its place, unless it is there
abbrev pub with_set : List (List ℕ) → List ℕ → List (List ℕ)
with_set sets set = insert_key (slice_cmp nat_cmp) sets set

-- # restrictions of rows (profile) [restrictions, with_set]
-- The rows restricted, one after the other put at their places in rising order, unless they are
-- there.
abbrev pub restrictions : List Bool → List (List ℕ) → List (List ℕ)
restrictions kept rows = fold with_set [] (map (restricted kept) rows)

-- # are the restrictions (profile)
-- A list that rises strictly and has exactly the restrictions of the rows; it is the one above, and
-- no other.
pub record AreRestrictions (kept : List Bool) (rows list : List (List ℕ)) : Type 0 where
  pub rising : IsStrictlySortedBy (slice_cmp nat_cmp) list
  pub members : (set : List ℕ) → allows list set ≡ allows (map (restricted kept) rows) set
