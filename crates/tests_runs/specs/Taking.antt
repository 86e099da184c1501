-- Which sets a table has a place for.
use Rattle.std.specs.Prelude.{◌≡◌, true, ℕ, List}
use Rattle.metric_dense.specs.DenseTables.{DenseTableValue, dense_tables}
use Rattle.metric_facts.specs.Facts.{is_full_set}
use Rattle.metric_facts.specs.declared.facts.KeyFacts.{KeyFacts}
use Rattle.metric_series.specs.SeriesTables.{SeriesValue, series_tables}
use Rattle.metric_series.specs.declared.either.Either.TheVariants.{Left, Right}

-- one whose series are found by hash has a place for any set
pub takes_any : (t : SeriesValue) (set : List ℕ) → series_tables.takes t set
takes_any (Left t) set = tt
takes_any (Right (Left t)) set = tt
takes_any (Right (Right t)) set = tt

-- a dense one for each full set of some keys
abbrev pub TakesFullSets : DenseTableValue → List KeyFacts → Type 0
TakesFullSets t keys = (set : List ℕ) → is_full_set keys set ≡ true → dense_tables.takes t set
