-- How a point is written.
use Rattle.std.specs.Prelude.{ℕ, ℤ, Bool, List, [], ◌∷◌, ◌++◌, Option, Some, None, codes}
use Rattle.std.specs.Fmt.{decimal}
use Rattle.std.specs.List.{concat}
use Rattle.metric_text.specs.Lists.{numbered}
use Rattle.metric_contents.specs.declared.contents.Key.{Key}
use Rattle.metric_aggregate.specs.declared.point_value.PointValue.{PointValue}
use Rattle.metric_aggregate.specs.declared.point_value.PointValue.TheVariants.{Sum, Last, Buckets}
use Rattle.metric_history.specs.declared.batch.Point.{Point}
use Rattle.metric_lines.specs.Keys.{series_text}
use Rattle.metric_lines.specs.Pieces.{listed, signed}

-- the sum of a histogram, where it is not left out
abbrev pub sum_text : Option ℤ → List ℕ
sum_text None = []
sum_text (Some sum) = signed (codes " sum=") sum

-- a value that is one number
unfoldable pub single_text : ℤ → List ℕ
single_text value = concat (signed (codes " value=") value ∷ codes "\n" ∷ [])

-- a histogram's value
unfoldable pub buckets_text : ℕ → List ℕ → Option ℤ → ℤ → ℤ → List ℕ
buckets_text count counts sum min max = concat (
    numbered (codes " count=") count
    ∷ listed decimal (codes " buckets=") counts
    ∷ sum_text sum
    ∷ signed (codes " min=") min
    ∷ signed (codes " max=") max
    ∷ codes "\n" ∷ [])

-- the end of a point's line: its value
abbrev pub value_text : PointValue → List ℕ
value_text (Sum value) = single_text value
value_text (Last value) = single_text value
value_text (Buckets count counts sum min max) = buckets_text count counts sum min max

-- the front of a point's line: its attributes, and when its recordings begin and were collected
unfoldable pub covered_text : List Key → List Bool → ℕ → ℕ → Option (List ℕ) → List ℕ
covered_text keys kept start time set = concat (
    codes "point {"
    ∷ series_text keys kept set
    ∷ numbered (codes "} start=") start
    ∷ numbered (codes " time=") time ∷ [])

-- # line of a point (profile)
-- What the formats say of one point.
unfoldable pub point_text : List Key → List Bool → ℕ → ℕ → Point → List ℕ
point_text keys kept start time point =
    covered_text keys kept start time point.set ++ value_text point.value
