-- Points in JSON.
use Rattle.std.specs.Prelude.{ℕ, ℤ, Bool, List, [], ◌∷◌, Option, Some, codes}
use Rattle.metric_contents.specs.declared.contents.Key.{Key}
use Rattle.metric_aggregate.specs.declared.point_value.PointValue.{PointValue}
use Rattle.metric_aggregate.specs.declared.point_value.PointValue.TheVariants.{Sum, Last, Buckets}
use Rattle.metric_history.specs.declared.batch.Batch.{Batch}
use Rattle.metric_history.specs.declared.batch.Point.{Point}
use Rattle.metric_otlp.specs.Json.{count_member, counts_member, double_member, doubles_member}
use Rattle.metric_otlp.specs.Json.{items_member, object, signed_member, time_member}
use Rattle.metric_otlp.specs.SeriesJson.{series_json}

-- a point of one number: the attributes of its series as they are written, when its recordings
-- begin, when they were collected, and the number
unfoldable pub number_json : List ℕ → Batch → ℤ → List ℕ
number_json series batch number = object (
    items_member (codes "attributes") series
    ∷ time_member (codes "startTimeUnixNano") batch.start
    ∷ time_member (codes "timeUnixNano") batch.time
    ∷ signed_member (codes "asInt") number ∷ [])

-- a point of a histogram with these boundaries
unfoldable pub histogram_json
    : List ℕ → List ℤ → Batch → ℕ → List ℕ → Option ℤ → Option ℤ → Option ℤ → List ℕ
histogram_json series bounds batch count counts sum min max = object (
    items_member (codes "attributes") series
    ∷ time_member (codes "startTimeUnixNano") batch.start
    ∷ time_member (codes "timeUnixNano") batch.time
    ∷ count_member (codes "count") count
    ∷ double_member (codes "sum") sum
    ∷ counts_member (codes "bucketCounts") counts
    ∷ doubles_member (codes "explicitBounds") bounds
    ∷ double_member (codes "min") min
    ∷ double_member (codes "max") max ∷ [])

-- a point by its value
abbrev pub value_json : List ℕ → List ℤ → Batch → PointValue → List ℕ
value_json series bounds batch (Sum number) = number_json series batch number
value_json series bounds batch (Last number) = number_json series batch number
value_json series bounds batch (Buckets count counts sum min max) =
    histogram_json series bounds batch count counts sum (Some min) (Some max)

-- a point, with the attributes that its stream keeps
abbrev pub point_json : List Key → List Bool → List ℤ → Batch → Point → List ℕ
point_json keys kept bounds batch point =
    value_json (series_json keys kept point.set) bounds batch point.value
