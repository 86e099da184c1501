-- How the values of a series are reported.
use Rattle.std.specs.Prelude.{ℤ, Bool, List}

-- # aggregation (SDK, aggregation)
-- How the values of a series are reported: by their sum, by the last, or by how many fall between
-- boundaries, with their sum or without it.
pub data Aggregation : Type 0 where
  SumAggregation : Aggregation
  LastValueAggregation : Aggregation
  HistogramAggregation : List ℤ → Bool → Aggregation
