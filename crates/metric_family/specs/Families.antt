-- The metric family of a stream, as Prometheus calls it.
use Rattle.std.specs.Prelude.{ℕ, Bool, true, false, not, ◌&&◌, ◌||◌, ◌==◌, List, [], ◌∷◌, ◌++◌, codes}
use Rattle.std.specs.Prelude.{filter, if◌then◌else◌, map}
use Rattle.std.specs.Char.{is_ascii_digit}
use Rattle.std.specs.List.{ends_with}
use Rattle.std.specs.Str.{bytes_eq}
use Rattle.metric_contents.specs.Kinds.{is_monotonic}
use Rattle.metric_views.specs.declared.stream.Stream.{Stream}
use Rattle.metric_views.specs.declared.stream.StreamAggregation.{StreamAggregation}
use Rattle.metric_views.specs.declared.stream.StreamAggregation.TheVariants.{Sum, LastValue}
use Rattle.metric_views.specs.declared.stream.StreamAggregation.TheVariants as aggregations
use Rattle.metric_family.specs.declared.metric_type.MetricType.{MetricType}
use Rattle.metric_family.specs.declared.metric_type.MetricType.TheVariants.{Counter, Gauge}
use Rattle.metric_family.specs.declared.metric_type.MetricType.TheVariants.{Histogram}
use Rattle.metric_family.specs.Words.{is_among, joined, without, words}
use Rattle.metric_family.specs.Units.{unit_parts}

-- a sum of a kind that only rises is a counter, another one a gauge
abbrev pub sum_type : Bool → MetricType
sum_type true = Counter
sum_type false = Gauge

abbrev pub type_by : StreamAggregation → Bool → MetricType
type_by Sum rises = sum_type rises
type_by LastValue rises = Gauge
type_by (aggregations.Histogram boundaries) rises = Histogram

-- # type of a family (Prometheus text format)
-- A sum that only rises is a counter, another sum and a last value a gauge.
unfoldable pub type_of : Stream → MetricType
type_of stream = type_by stream.aggregation (is_monotonic stream.kind)

-- how a type is written
abbrev pub type_name : MetricType → List ℕ
type_name Counter = codes "counter"
type_name Gauge = codes "gauge"
type_name Histogram = codes "histogram"

-- the words of a name, and then those parts of its unit that are none of these words
unfoldable pub named_parts : List ℕ → List ℕ → List (List ℕ)
named_parts name unit =
    words name ++ filter (λ part. not (is_among (words name) part)) (unit_parts unit)

abbrev pub is_last_value : StreamAggregation → Bool
is_last_value Sum = false
is_last_value LastValue = true
is_last_value (aggregations.Histogram boundaries) = false

-- a last value whose unit is 1 is a ratio
unfoldable pub is_ratio : Stream → Bool
is_ratio stream = is_last_value stream.aggregation && bytes_eq stream.unit (codes "1")

-- the part that is left out of a name: `total`, by which the names of a counter's samples end, and
-- `ratio`, which is put last; else none, for no part is empty
abbrev pub left_out : MetricType → Bool → List ℕ
left_out Counter ratio = codes "total"
left_out Gauge true = codes "ratio"
left_out Gauge false = []
left_out Histogram ratio = []

abbrev pub ratio_parts : Bool → List (List ℕ)
ratio_parts ratio = if ratio then codes "ratio" ∷ [] else []

-- the parts of a family
unfoldable pub family_parts : Stream → List (List ℕ)
family_parts stream =
    without (left_out (type_of stream) (is_ratio stream)) (named_parts stream.name stream.unit)
    ++ ratio_parts (is_ratio stream)

-- a name does not begin with a digit
abbrev pub unless_digit : List ℕ → List ℕ
unless_digit [] = []
unless_digit (c ∷ name) = if is_ascii_digit c then 95 ∷ c ∷ name else c ∷ name

-- # family (Prometheus, naming by the Collector)
-- The words of a stream's name and the parts of its unit that are none of these, with `_` between;
-- empty where none is left.
unfoldable pub family : Stream → List ℕ
family stream = unless_digit (joined (family_parts stream))

-- the name ends with `_` and the words of the unit
abbrev pub ends_with_unit : List ℕ → List ℕ → Bool
ends_with_unit name unit = ends_with ◌==◌ name (95 ∷ unit)

-- the unit that is told of a family: where its name ends with `_` and it
abbrev pub unit_told : List ℕ → List ℕ → List ℕ
unit_told name unit = if ends_with_unit name unit then unit else []

-- # unit that is told (OpenMetrics, `# UNIT`)
-- The parts of the unit, where the family ends with `_` and them: never the family itself.
unfoldable pub unit_text : Stream → List ℕ
unit_text stream = unit_told (family stream) (joined (unit_parts stream.unit))

-- what stands after the family in the names of its samples
abbrev pub suffixes : MetricType → List (List ℕ)
suffixes Gauge = [] ∷ []
suffixes Counter = [] ∷ codes "_total" ∷ codes "_created" ∷ []
suffixes Histogram =
    [] ∷ codes "_bucket" ∷ codes "_sum" ∷ codes "_count" ∷ codes "_created" ∷ []

-- The names that a stream claims: those of its family and of its samples. One whose family has no
-- name claims nothing.
abbrev pub claims_by : List ℕ → MetricType → List (List ℕ)
claims_by [] type = []
claims_by (c ∷ name) type = map (λ suffix. c ∷ name ++ suffix) (suffixes type)

-- # claims (OpenMetrics, sample names)
-- The names of a family and of its samples.
unfoldable pub claims_of : Stream → List (List ℕ)
claims_of stream = claims_by (family stream) (type_of stream)
