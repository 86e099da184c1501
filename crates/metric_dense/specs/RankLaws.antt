-- What holds of each rank.
use Rattle.std.specs.Prelude.{◌≡◌, ℕ, ◌+◌, ◌<◌, Bool, true, List, length}
use Rattle.std.specs.Ordering.{nat_cmp}
use Rattle.std.specs.Cmp.Lexicographic.{slice_cmp}
use Rattle.metric_facts.specs.declared.facts.KeyFacts.{KeyFacts}
use Rattle.metric_facts.specs.Facts.{is_full_set}
use Rattle.metric_combinations.specs.Restrictions.{restricted}
use Rattle.metric_facts.specs.Products.{product_of}
use Rattle.metric_facts.specs.Ranks.{rank}
use Rattle.metric_dense.specs.Ranks.{unrank}

-- the set of the rank of a full set is its series
abbrev pub GivesBack : ℕ → List Bool → List KeyFacts → List ℕ → Type 0
GivesBack pad kept keys set =
    length kept ≡ length keys → length set ≡ length keys + pad → is_full_set keys set ≡ true
    → unrank pad kept keys (rank kept keys set) ≡ restricted kept set

-- the rank of the set of a rank is that rank
abbrev pub RanksBack : ℕ → List Bool → List KeyFacts → ℕ → Type 0
RanksBack pad kept keys r = r < product_of kept keys → rank kept keys (unrank pad kept keys r) ≡ r

-- the sets of ranks are ordered as the ranks are
abbrev pub KeepsOrder : ℕ → List Bool → List KeyFacts → ℕ → ℕ → Type 0
KeepsOrder pad kept keys a b =
    a < product_of kept keys → b < product_of kept keys
    → slice_cmp nat_cmp (unrank pad kept keys a) (unrank pad kept keys b) ≡ nat_cmp a b
