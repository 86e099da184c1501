-- The value of a list of recorded values: what a point reports of them.
use Rattle.std.specs.Prelude.{ℕ, ℤ, pos, ◌+◌, ◌-◌, ◌+ℤ◌, ◌==◌, Bool, true, false, List, [], ◌∷◌}
use Rattle.std.specs.Prelude.{length, map, fold, count_by, int_lt, slice_index_or, Option, Some}
use Rattle.std.specs.Prelude.{None}
use Rattle.std.specs.Int.{int_min, int_max}
use Rattle.std.specs.List.{range_with_len}
use Rattle.metric_aggregate.specs.Aggregation.{Aggregation, SumAggregation, LastValueAggregation}
use Rattle.metric_aggregate.specs.Aggregation.{HistogramAggregation}
use Rattle.metric_aggregate.specs.declared.point_value.PointValue.{PointValue}
use Rattle.metric_aggregate.specs.declared.point_value.PointValue.TheVariants.{Sum, Last, Buckets}

-- # sum, last value (SDK, sum and last value aggregation) [sum_of, last_of]
-- The sum of all values without a limit; the value that was added last.
abbrev pub sum_of : List ℤ → ℤ
sum_of values = fold ◌+ℤ◌ (pos 0) values

-- the last value, and 0 where there is none
abbrev pub last_of : List ℤ → ℤ
last_of values = slice_index_or values (length values - 1) (pos 0)

-- # least, greatest value (SDK, explicit bucket histogram aggregation) [least_or, greatest_or]
-- The least and the greatest value of a list.
abbrev pub least_or : ℤ → List ℤ → ℤ
least_or none [] = none
least_or none (x ∷ xs) = int_min x (least_or x xs)

-- the greatest value, or the other one where there is none
abbrev pub greatest_or : ℤ → List ℤ → ℤ
greatest_or none [] = none
greatest_or none (x ∷ xs) = int_max x (greatest_or x xs)

-- # bucket of a value (SDK, explicit bucket histogram aggregation)
-- How many boundaries are less than the value.
abbrev pub bucket_of : List ℤ → ℤ → ℕ
bucket_of boundaries value = count_by (λ boundary. int_lt boundary value) boundaries

-- how many of the values fall into a bucket
abbrev pub bucket_count : List ℤ → List ℤ → ℕ → ℕ
bucket_count boundaries values bucket =
    count_by (λ value. bucket_of boundaries value == bucket) values

-- # bucket counts (SDK, explicit bucket histogram aggregation)
-- For each bucket how many values fall into it; there is one bucket more than there are boundaries.
abbrev pub bucket_counts : List ℤ → List ℤ → List ℕ
bucket_counts boundaries values =
    map (bucket_count boundaries values) (range_with_len 0 (length boundaries + 1))

-- the sum where it is reported
abbrev pub kept_sum : Bool → List ℤ → Option ℤ
kept_sum true values = Some (sum_of values)
kept_sum false values = None

-- # value of a list (SDK, aggregation)
-- What a point reports of the list, by its aggregation.
abbrev pub value_of : Aggregation → List ℤ → PointValue
value_of SumAggregation values = Sum (sum_of values)
value_of LastValueAggregation values = Last (last_of values)
value_of (HistogramAggregation boundaries keeps_sum) values =
    Buckets (length values) (bucket_counts boundaries values) (kept_sum keeps_sum values)
    (least_or (pos 0) values) (greatest_or (pos 0) values)
