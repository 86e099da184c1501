-- The sample lines of a point.
use Rattle.std.specs.Prelude.{ℕ, ℤ, ◌+◌, Bool, true, false, ◌&&◌, if◌then◌else◌, List, [], ◌∷◌, ◌++◌}
use Rattle.std.specs.Prelude.{Option, Some, None, codes, map}
use Rattle.std.specs.Fmt.{decimal, signed_decimal}
use Rattle.std.specs.Int.{is_negative}
use Rattle.std.specs.List.{concat, flat_map, list_any, scan, zip}
use Rattle.metric_aggregate.specs.declared.point_value.PointValue.{PointValue}
use Rattle.metric_aggregate.specs.declared.point_value.PointValue.TheVariants.{Sum, Last, Buckets}
use Rattle.metric_family.specs.declared.metric_type.MetricType.{MetricType}
use Rattle.metric_family.specs.declared.metric_type.MetricType.TheVariants.{Counter, Gauge}
use Rattle.metric_family.specs.declared.metric_type.MetricType.TheVariants.{Histogram}
use Rattle.metric_exposition.specs.Boundaries.{le_text}
use Rattle.metric_exposition.specs.Dialects.{is_open_metrics}
use Rattle.metric_exposition.specs.LabelTexts.{braced, comma_after}
use Rattle.metric_exposition.specs.Pieces.{seconds}
use Rattle.metric_exposition.specs.declared.dialect.Dialect.{Dialect}

-- a line: a name, labels, and a value
unfoldable pub sample : List ℕ → List ℕ → List ℕ → List ℕ → List ℕ
sample family suffix labels value = concat (
    family ∷ suffix ∷ braced labels ∷ codes " " ∷ value ∷ codes "\n" ∷ [])

-- when the point begins, where it is told
abbrev pub created_line : List ℕ → List ℕ → Option ℕ → List ℕ
created_line family labels None = []
created_line family labels (Some start) = sample family (codes "_created") labels (seconds start)

-- a number: of a counter with `_total` behind its family's name
abbrev pub number_lines : MetricType → List ℕ → List ℕ → Option ℕ → ℤ → List ℕ
number_lines Counter family labels created n =
    sample family (codes "_total") labels (signed_decimal n) ++ created_line family labels created
number_lines Gauge family labels created n = sample family [] labels (signed_decimal n)
number_lines Histogram family labels created n = sample family [] labels (signed_decimal n)

-- how the lines of buckets begin, up to the boundary
unfoldable pub bucket_head : List ℕ → List ℕ → List ℕ
bucket_head family labels =
    concat (family ∷ codes "_bucket{" ∷ comma_after labels ∷ codes "le=\"" ∷ [])

-- a bucket behind that: its boundary, and how many values are at most that
unfoldable pub line_after : List ℕ → List ℕ × ℕ → List ℕ
line_after head bucket =
    concat (head ∷ bucket.0 ∷ codes "\"} " ∷ decimal bucket.1 ∷ codes "\n" ∷ [])

abbrev pub bucket_line : List ℕ → List ℕ → List ℕ × ℕ → List ℕ
bucket_line family labels = line_after (bucket_head family labels)

-- the boundaries of buckets from below; the last one has none
abbrev pub les : List ℤ → List (List ℕ)
les boundaries = map le_text boundaries ++ codes "+Inf" ∷ []

-- the sums of counts so far
abbrev pub sums_from : ℕ → List ℕ → List ℕ
sums_from before counts =
    scan (λ (total : ℕ) (count : ℕ). total + count) (λ total count. total + count) before counts

-- the buckets: each with its boundary, and how many values are in it and in those below it
abbrev pub buckets_from : ℕ → List ℤ → List ℕ → List (List ℕ × ℕ)
buckets_from before boundaries counts = zip (les boundaries) (sums_from before counts)

-- # buckets (Prometheus text format, histogram)
-- Each boundary, and at last `+Inf`, with the sum of the counts up to its own.
abbrev pub buckets : List ℤ → List ℕ → List (List ℕ × ℕ)
buckets boundaries counts = buckets_from 0 boundaries counts

-- OpenMetrics has no sum where a boundary is negative
abbrev pub sum_told : Dialect → List ℤ → Option ℤ → Option ℤ
sum_told dialect boundaries sum =
    if is_open_metrics dialect && list_any is_negative boundaries then None else sum

abbrev pub sum_line : List ℕ → List ℕ → Option ℤ → List ℕ
sum_line family labels None = []
sum_line family labels (Some sum) = sample family (codes "_sum") labels (signed_decimal sum)

-- nor has it a count where it has no sum
abbrev pub count_line : Bool → List ℕ → List ℕ → Option ℤ → ℕ → List ℕ
count_line true family labels None count = []
count_line true family labels (Some sum) count = sample family (codes "_count") labels (decimal count)
count_line false family labels sum count = sample family (codes "_count") labels (decimal count)

-- a histogram: its buckets, its sum, its count, and when it begins
unfoldable pub histogram_lines
    : Dialect → List ℕ → List ℕ → Option ℕ → List ℤ → ℕ → List ℕ → Option ℤ → List ℕ
histogram_lines dialect family labels created boundaries count counts sum = concat (
    flat_map (bucket_line family labels) (buckets boundaries counts)
    ∷ sum_line family labels (sum_told dialect boundaries sum)
    ∷ count_line (is_open_metrics dialect) family labels (sum_told dialect boundaries sum) count
    ∷ created_line family labels created ∷ [])

-- # lines of a point (Prometheus text format, OpenMetrics)
-- A number, or the buckets, the sum and the count of a histogram, and when they begin where the
-- dialect tells it.
abbrev pub value_lines
    : Dialect → MetricType → List ℕ → List ℕ → Option ℕ → List ℤ → PointValue → List ℕ
value_lines dialect type family labels created boundaries (Sum n) =
    number_lines type family labels created n
value_lines dialect type family labels created boundaries (Last n) =
    number_lines type family labels created n
value_lines dialect type family labels created boundaries (Buckets count counts sum min max) =
    histogram_lines dialect family labels created boundaries count counts sum
