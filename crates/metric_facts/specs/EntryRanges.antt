-- The least and the greatest entry of each place of a full set.
use Rattle.std.specs.Prelude.{◌≡◌, ◌&&◌, ℕ, zero, suc, Bool, true, if◌then◌else◌, List, [], ◌∷◌}
use Rattle.std.specs.Prelude.{length, nat_le, replicate, slice_index_or}
use Rattle.metric_facts.specs.declared.facts.KeyFacts.{KeyFacts}

-- for n places the least entry
abbrev pub least_of : ℕ → List KeyFacts → List ℕ
least_of zero keys = []
least_of (suc n) [] = replicate (suc n) 0
least_of (suc n) (key ∷ keys) = (if key.optional then 0 else 1) ∷ least_of n keys

-- for n places the greatest entry
abbrev pub most_of : ℕ → List KeyFacts → List ℕ
most_of zero keys = []
most_of (suc n) [] = replicate (suc n) 0
most_of (suc n) (key ∷ keys) = key.values ∷ most_of n keys

-- whether the entries of the first n places are from the least to the greatest
abbrev pub are_within : ℕ → List ℕ → List ℕ → List ℕ → Bool
are_within zero least most set = true
are_within (suc n) least most set =
    are_within n least most set
    && (nat_le (slice_index_or least n 0) (slice_index_or set n 0)
    && nat_le (slice_index_or set n 0) (slice_index_or most n 0))

-- what stands beside facts: the ranges of eight places, and whether there are no more keys
pub record AreRanges (keys : List KeyFacts) (least most : List ℕ) (are_few : Bool) : Type 0 where
  pub least_is : least ≡ least_of 8 keys
  pub most_is : most ≡ most_of 8 keys
  pub few_is : are_few ≡ nat_le (length keys) 8
