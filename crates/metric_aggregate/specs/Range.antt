-- Which lists of recorded values can be aggregated in 64 bits.
use Rattle.std.specs.Prelude.{ℤ, pos, negsuc, ◌-◌, ◌^◌, Bool, true, ◌&&◌, ◌||◌, not, List, length}
use Rattle.std.specs.Prelude.{nat_lt, int_lt, int_le}
use Rattle.metric_aggregate.specs.Aggregation.{Aggregation, SumAggregation, LastValueAggregation}
use Rattle.metric_aggregate.specs.Aggregation.{HistogramAggregation}
use Rattle.metric_aggregate.specs.Value.{sum_of}

-- whether a number is an i64
abbrev pub fits_i64 : ℤ → Bool
fits_i64 z = int_le (negsuc (2 ^ 63 - 1)) z && int_lt z (pos (2 ^ 63))

-- # in range (profile)
-- A kept sum of a list is in i64, and a count of it in u64.
abbrev pub in_range : Aggregation → List ℤ → Bool
in_range SumAggregation values = fits_i64 (sum_of values)
in_range LastValueAggregation values = true
in_range (HistogramAggregation boundaries keeps_sum) values =
    nat_lt (length values) (2 ^ 64) && (not keeps_sum || fits_i64 (sum_of values))

-- whether a sum is in range, where the aggregation keeps it
abbrev pub sum_in_range : Aggregation → ℤ → Bool
sum_in_range SumAggregation sum = fits_i64 sum
sum_in_range LastValueAggregation sum = true
sum_in_range (HistogramAggregation boundaries keeps_sum) sum = not keeps_sum || fits_i64 sum
