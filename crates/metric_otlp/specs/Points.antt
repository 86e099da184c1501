-- Points: messages `NumberDataPoint` and `HistogramDataPoint`.
use Rattle.std.specs.Prelude.{ℕ, ℤ, Bool, List, [], ◌∷◌, Option, Some}
use Rattle.std.specs.List.{concat}
use Rattle.metric_contents.specs.declared.contents.Key.{Key}
use Rattle.metric_aggregate.specs.declared.point_value.PointValue.{PointValue}
use Rattle.metric_aggregate.specs.declared.point_value.PointValue.TheVariants.{Sum, Last, Buckets}
use Rattle.metric_history.specs.declared.batch.Batch.{Batch}
use Rattle.metric_history.specs.declared.batch.Point.{Point}
use Rattle.metric_wire.specs.Wire.{block, signed_field}
use Rattle.metric_otlp.specs.Fields.{fixed_field, optional_double, packed_doubles, packed_words}
use Rattle.metric_otlp.specs.Series.{series_fields}

-- a point of one number: when its recordings begin, when they were collected, the number, and the
-- attributes of its series
unfoldable pub number_point : List Key → List Bool → Batch → Option (List ℕ) → ℤ → List ℕ
number_point keys kept batch set number = concat (
    fixed_field 2 batch.start
    ∷ fixed_field 3 batch.time
    ∷ signed_field 6 number
    ∷ series_fields 7 keys kept set ∷ [])

-- a point of a histogram with these boundaries
unfoldable pub histogram_point
    : List Key → List Bool → List ℤ → Batch → Option (List ℕ)
    → ℕ → List ℕ → Option ℤ → ℤ → ℤ → List ℕ
histogram_point keys kept bounds batch set count counts sum min max = concat (
    fixed_field 2 batch.start
    ∷ fixed_field 3 batch.time
    ∷ fixed_field 4 count
    ∷ optional_double 5 sum
    ∷ packed_words 6 counts
    ∷ packed_doubles 7 bounds
    ∷ series_fields 9 keys kept set
    ∷ optional_double 11 (Some min)
    ∷ optional_double 12 (Some max) ∷ [])

-- a point by its value
abbrev pub point_message
    : List Key → List Bool → List ℤ → Batch → Option (List ℕ) → PointValue → List ℕ
point_message keys kept bounds batch set (Sum number) = number_point keys kept batch set number
point_message keys kept bounds batch set (Last number) = number_point keys kept batch set number
point_message keys kept bounds batch set (Buckets count counts sum min max) =
    histogram_point keys kept bounds batch set count counts sum min max

-- # point (OTLP, metrics)
-- A message `NumberDataPoint` or `HistogramDataPoint`, by its value.
abbrev pub point_field : List Key → List Bool → List ℤ → Batch → Point → List ℕ
point_field keys kept bounds batch point =
    block 1 (point_message keys kept bounds batch point.set point.value)
