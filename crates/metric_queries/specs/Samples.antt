-- What the samples of a stream are called in a page.
use Rattle.std.specs.Prelude.{ℕ, ℤ, pos, Bool, not, ◌||◌, List, [], ◌∷◌, ◌++◌, Option, Some, None}
use Rattle.std.specs.Prelude.{codes, is_some, if◌then◌else◌}
use Rattle.metric_contents.specs.Kinds.{is_monotonic}
use Rattle.metric_views.specs.declared.stream.Stream.{Stream}
use Rattle.metric_family.specs.declared.metric_type.MetricType.{MetricType}
use Rattle.metric_family.specs.declared.metric_type.MetricType.TheVariants.{Counter, Gauge}
use Rattle.metric_family.specs.declared.metric_type.MetricType.TheVariants.{Histogram}
use Rattle.metric_family.specs.Families.{family, type_of}
use Rattle.metric_exposition.specs.Dialects.{created_at, is_open_metrics}
use Rattle.metric_exposition.specs.Expositions.{boundaries_of}
use Rattle.metric_exposition.specs.Samples.{les, sum_told}
use Rattle.metric_exposition.specs.declared.dialect.Dialect.{Dialect}
use Rattle.metric_queries.specs.declared.sample.Sample.{Sample}

-- a sample without the label of buckets
abbrev pub plain : List ℕ → List ℕ → Sample
plain family suffix = record { name = family ++ suffix; marks = [] ∷ [] }

abbrev pub plain_if : Bool → List ℕ → List ℕ → List Sample
plain_if test family suffix = if test then plain family suffix ∷ [] else []

-- whether it is told when series begin
abbrev pub tells_created : Dialect → Bool
tells_created dialect = is_some (created_at dialect 0)

-- some sum, where one is kept
abbrev pub sum_kept : Stream → Option ℤ
sum_kept stream = if is_monotonic stream.kind then Some (pos 0) else None

abbrev pub tells_sum : Dialect → Stream → Bool
tells_sum dialect stream =
    is_some (sum_told dialect (boundaries_of stream.aggregation) (sum_kept stream))

-- OpenMetrics has no count without a sum
abbrev pub tells_count : Dialect → Stream → Bool
tells_count dialect stream = not (is_open_metrics dialect) || tells_sum dialect stream

abbrev pub samples_by : Dialect → Stream → List ℕ → MetricType → List Sample
samples_by dialect stream name Gauge = plain name [] ∷ []
samples_by dialect stream name Counter =
    plain name (codes "_total") ∷ plain_if (tells_created dialect) name (codes "_created")
samples_by dialect stream name Histogram =
    record { name = name ++ codes "_bucket"; marks = les (boundaries_of stream.aggregation) }
    ∷ (plain_if (tells_sum dialect stream) name (codes "_sum")
    ++ (plain_if (tells_count dialect stream) name (codes "_count")
    ++ plain_if (tells_created dialect) name (codes "_created")))

-- # samples of a stream (Prometheus text format, OpenMetrics)
-- Their names, and the texts of `le` that the lines of each have, of which the empty one is none.
unfoldable pub samples_of : Dialect → Stream → List Sample
samples_of dialect stream = samples_by dialect stream (family stream) (type_of stream)
