-- What readers and views choose, and how a config spells it.
use Rattle.std.specs.Prelude.{ℕ, codes, Bool, true, false, List, Option, Some, None, if◌then◌else◌}
use Rattle.std.specs.Str.{bytes_eq}
use Rattle.metric_contents.specs.declared.contents.Kind.{Kind}
use Rattle.metric_contents.specs.declared.contents.Kind.TheVariants as kinds
use Rattle.metric_views.specs.declared.choices.ByKind.{ByKind}
use Rattle.metric_views.specs.declared.choices.Temporality.{Temporality}
use Rattle.metric_views.specs.declared.choices.Temporality.TheVariants.{Delta, Cumulative}
use Rattle.metric_views.specs.declared.choices.Aggregation.{Aggregation}
use Rattle.metric_views.specs.declared.choices.Aggregation.TheVariants as aggregations

-- # choice for a kind (SDK, MetricReader)
-- A reader's choice for an instrument's kind.
abbrev pub choice_for : {T : Type 0} → ByKind T → Kind → T
choice_for choices kinds.Counter = choices.counter
choice_for choices kinds.UpDownCounter = choices.up_down_counter
choice_for choices kinds.Histogram = choices.histogram
choice_for choices kinds.Gauge = choices.gauge

-- # fits (profile)
-- Every aggregation but a sum of a gauge.
abbrev pub is_unfit : Kind → Aggregation → Bool
is_unfit kinds.Gauge aggregations.Sum = true
is_unfit _ _ = false

-- # temporality, aggregation of a name (SDK, MetricReader; SDK, aggregation) [temporality_named,
-- aggregation_named]
-- What `delta`, `cumulative` and the five names of aggregations stand for.
abbrev pub temporality_named : List ℕ → Option Temporality
temporality_named text =
    if bytes_eq text (codes "delta") then Some Delta
    else (if bytes_eq text (codes "cumulative") then Some Cumulative else None)

-- the aggregation that a text names
abbrev pub aggregation_named : List ℕ → Option Aggregation
aggregation_named text =
    if bytes_eq text (codes "default") then Some aggregations.Default else
    (if bytes_eq text (codes "drop") then Some aggregations.Drop else
    (if bytes_eq text (codes "sum") then Some aggregations.Sum else
    (if bytes_eq text (codes "last_value") then Some aggregations.LastValue else
    (if bytes_eq text (codes "explicit_bucket_histogram")
    then Some aggregations.ExplicitBucketHistogram else None))))
