-- What a config says, mixed into a fingerprint.
use Rattle.std.specs.Prelude.{ℕ}
use Rattle.metric_contents.specs.declared.contents.Kind.{Kind}
use Rattle.metric_contents.specs.declared.contents.Kind.TheVariants as kinds
use Rattle.metric_views.specs.declared.choices.Aggregation.{Aggregation}
use Rattle.metric_views.specs.declared.choices.Aggregation.TheVariants as aggregations
use Rattle.metric_views.specs.declared.choices.ByKind.{ByKind}
use Rattle.metric_views.specs.declared.choices.Temporality.{Temporality}
use Rattle.metric_views.specs.declared.choices.Temporality.TheVariants.{Delta, Cumulative}
use Rattle.metric_views.specs.declared.config.Criteria.{Criteria}
use Rattle.metric_views.specs.declared.config.Reader.{Reader}
use Rattle.metric_views.specs.declared.config.Settings.{Settings}
use Rattle.metric_views.specs.declared.config.View.{View}
use Rattle.metric_plan.specs.Mixing.{mixed, mixed_list, mixed_option, mixed_signed, mixed_text}

abbrev pub kind_mixed : ℕ → Kind → ℕ
kind_mixed print kinds.Counter = mixed print 0
kind_mixed print kinds.UpDownCounter = mixed print 1
kind_mixed print kinds.Histogram = mixed print 2
kind_mixed print kinds.Gauge = mixed print 3

abbrev pub temporality_mixed : ℕ → Temporality → ℕ
temporality_mixed print Delta = mixed print 0
temporality_mixed print Cumulative = mixed print 1

abbrev pub aggregation_mixed : ℕ → Aggregation → ℕ
aggregation_mixed print aggregations.Default = mixed print 0
aggregation_mixed print aggregations.Drop = mixed print 1
aggregation_mixed print aggregations.Sum = mixed print 2
aggregation_mixed print aggregations.LastValue = mixed print 3
aggregation_mixed print aggregations.ExplicitBucketHistogram = mixed print 4

abbrev pub choices_mixed : {X : Type 0} → (ℕ → X → ℕ) → ℕ → ByKind X → ℕ
choices_mixed mix print choices =
    mix (mix (mix (mix print choices.counter) choices.up_down_counter) choices.histogram)
    choices.gauge

abbrev pub reader_mixed : ℕ → Reader → ℕ
reader_mixed print reader =
    let name = mixed_text print reader.name in
    let temporality = choices_mixed temporality_mixed name reader.temporality in
    choices_mixed mixed (choices_mixed aggregation_mixed temporality reader.aggregation)
    reader.limit

-- by what a view selects instruments
abbrev pub criteria_mixed : ℕ → Criteria → ℕ
criteria_mixed print by =
    let name = mixed_option mixed_text print by.instrument_name in
    let kind = mixed_option kind_mixed name by.instrument_type in
    let unit = mixed_option mixed_text kind by.instrument_unit in
    let meter = mixed_option mixed_text unit by.meter_name in
    mixed_option mixed_text (mixed_option mixed_text meter by.meter_version) by.meter_schema_url

-- what it gives their streams
abbrev pub settings_mixed : ℕ → Settings → ℕ
settings_mixed print given =
    let name = mixed_option mixed_text print given.stream_name in
    let description = mixed_option mixed_text name given.description in
    let aggregation = mixed_option aggregation_mixed description given.aggregation in
    let bounds = mixed_option (mixed_list mixed_signed) aggregation given.boundaries in
    let keep = mixed_option (mixed_list mixed_text) bounds given.keep in
    mixed_option mixed (mixed_option (mixed_list mixed_text) keep given.exclude) given.limit

abbrev pub view_mixed : ℕ → View → ℕ
view_mixed print view = settings_mixed (criteria_mixed print view.criteria) view.settings
