-- A table of weights by which ranks are found.
use Rattle.std.specs.Prelude.{◌≡◌, ℕ, zero, suc, ◌+◌, ◌*◌, Bool, if◌then◌else◌, List, [], ◌∷◌}
use Rattle.std.specs.Prelude.{replicate, slice_index_or}
use Rattle.metric_facts.specs.declared.facts.KeyFacts.{KeyFacts}
use Rattle.metric_facts.specs.EntryRanges.{least_of}
use Rattle.metric_facts.specs.Products.{product_of}
use Rattle.metric_dense.specs.Ranks.{IsRanked}

-- the sum over the first n places of a list, each as often as it weighs
abbrev pub weighted : ℕ → List ℕ → List ℕ → ℕ
weighted zero weights set = 0
weighted (suc n) weights set =
    weighted n weights set + slice_index_or weights n 0 * slice_index_or set n 0

-- for n places what one more there is worth
abbrev pub weights_of : ℕ → List Bool → List KeyFacts → List ℕ
weights_of zero kept keys = []
weights_of (suc n) [] keys = replicate (suc n) 0
weights_of (suc n) (flag ∷ kept) [] = replicate (suc n) 0
weights_of (suc n) (flag ∷ kept) (key ∷ keys) =
    (if flag then product_of kept keys else 0) ∷ weights_of n kept keys

-- of which keys ranks are, of which each is kept or not
pub record RanksValue : Type 0 where
  pub kept : List Bool
  pub keys : List KeyFacts

-- the table of a stream's keys, and what the least entries weigh
pub record IsTable (kept : List Bool) (keys : List KeyFacts) (weights : List ℕ) (base : ℕ)
    : Type 0 where
  pub ranked : IsRanked kept keys
  pub weighed : weights ≡ weights_of 8 kept keys
  pub least : base ≡ weighted 8 weights (least_of 8 keys)
