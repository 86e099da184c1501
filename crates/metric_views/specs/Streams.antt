-- Which stream a view, or the default, makes of an instrument for a reader.
use Rattle.std.specs.Prelude.{ℕ, ℤ, pos, Bool, true, false, not, ◌&&◌, List, [], ◌∷◌, map, Option}
use Rattle.std.specs.Prelude.{Some, None, slice_get, unwrap_or}
use Rattle.std.specs.List.{list_any}
use Rattle.std.specs.Option.{option_map}
use Rattle.std.specs.Str.{bytes_eq}
use Rattle.metric_contents.specs.declared.contents.Contents.{Contents}
use Rattle.metric_contents.specs.declared.contents.Instrument.{Instrument}
use Rattle.metric_contents.specs.declared.contents.Key.{Key}
use Rattle.metric_contents.specs.declared.contents.Kind.{Kind}
use Rattle.metric_contents.specs.declared.contents.Kind.TheVariants as kinds
use Rattle.metric_views.specs.declared.choices.Aggregation.{Aggregation}
use Rattle.metric_views.specs.declared.choices.Aggregation.TheVariants as choices
use Rattle.metric_views.specs.declared.config.Config.{Config}
use Rattle.metric_views.specs.declared.config.Reader.{Reader}
use Rattle.metric_views.specs.declared.config.Settings.{Settings}
use Rattle.metric_views.specs.declared.config.View.{View}
use Rattle.metric_views.specs.declared.stream.Fill.{Fill}
use Rattle.metric_views.specs.declared.stream.Fill.TheVariants.{Unfit, Dropped, Kept}
use Rattle.metric_views.specs.declared.stream.Stream.{Stream}
use Rattle.metric_views.specs.declared.template.Template.{Template}
use Rattle.metric_views.specs.declared.stream.StreamAggregation.{StreamAggregation}
use Rattle.metric_views.specs.declared.stream.StreamAggregation.TheVariants.{Sum, LastValue}
use Rattle.metric_views.specs.declared.stream.StreamAggregation.TheVariants.{Histogram}
use Rattle.metric_views.specs.Choices.{choice_for, is_unfit}

-- what the default stream is given: nothing
abbrev pub no_settings : Settings
no_settings = record {
  stream_name = None;
  description = None;
  aggregation = None;
  boundaries = None;
  keep = None;
  exclude = None;
  limit = None;
}

-- the aggregation that a view names, else the reader's for the kind
abbrev pub chosen_aggregation : Reader → Kind → Option Aggregation → Aggregation
chosen_aggregation reader kind named = unwrap_or named (choice_for reader.aggregation kind)

-- the boundaries of a histogram where neither view nor instrument gives any
abbrev pub usual_boundaries : List ℤ
usual_boundaries =
    map pos
    (0 ∷ 5 ∷ 10 ∷ 25 ∷ 50 ∷ 75 ∷ 100 ∷ 250 ∷ 500 ∷ 750 ∷ 1000 ∷ 2500 ∷ 5000 ∷ 7500 ∷ 10000 ∷ [])

-- the view itself names the histogram
abbrev pub names_histogram : Option Aggregation → Bool
names_histogram (Some choices.ExplicitBucketHistogram) = true
names_histogram _ = false

-- the advice of an instrument, which a view that itself names the histogram ignores
abbrev pub advised : Bool → Option (List ℤ) → List ℤ
advised true advice = usual_boundaries
advised false advice = unwrap_or advice usual_boundaries

-- # boundaries of a stream (SDK, explicit bucket histogram aggregation; API, advisory parameters)
-- [boundaries_for, usual_boundaries]
-- The view's; else the instrument's advice, unless the view itself names the histogram; else the
-- usual fifteen.
abbrev pub boundaries_for : Instrument → Settings → List ℤ
boundaries_for instrument settings =
    unwrap_or settings.boundaries (advised (names_histogram settings.aggregation) instrument.advice)

-- what suits a kind
abbrev pub default_aggregation : Kind → List ℤ → StreamAggregation
default_aggregation kinds.Counter boundaries = Sum
default_aggregation kinds.UpDownCounter boundaries = Sum
default_aggregation kinds.Histogram boundaries = Histogram boundaries
default_aggregation kinds.Gauge boundaries = LastValue

-- a stream's aggregation, or none where the recordings are dropped
abbrev pub aggregation_with : Aggregation → Kind → List ℤ → Option StreamAggregation
aggregation_with choices.Default kind boundaries = Some (default_aggregation kind boundaries)
aggregation_with choices.Drop kind boundaries = None
aggregation_with choices.Sum kind boundaries = Some Sum
aggregation_with choices.LastValue kind boundaries = Some LastValue
aggregation_with choices.ExplicitBucketHistogram kind boundaries = Some (Histogram boundaries)

-- a key is in a list
abbrev pub is_listed : List ℕ → List (List ℕ) → Bool
is_listed name keys = list_any (λ key. bytes_eq key name) keys

-- a list of kept keys has the key, where there is such a list
abbrev pub is_wanted : List ℕ → Option (List (List ℕ)) → Bool
is_wanted name None = true
is_wanted name (Some keys) = is_listed name keys

-- a list of excluded keys has the key, where there is such a list
abbrev pub is_excluded : List ℕ → Option (List (List ℕ)) → Bool
is_excluded name None = false
is_excluded name (Some keys) = is_listed name keys

-- # kept key (SDK, stream configuration)
-- One that is in `keep`, where there is such a list, and not in `exclude`.
abbrev pub is_kept : Option (List (List ℕ)) → Option (List (List ℕ)) → Key → Bool
is_kept keep exclude key = is_wanted key.name keep && not (is_excluded key.name exclude)

-- # what streams have in common (SDK, View, stream configuration)
-- What a view, or the default, gives the streams of an instrument, whoever reads them.
unfoldable pub template_of : ℕ → Instrument → Option ℕ → Settings → Template
template_of number instrument view settings = record {
  instrument = number;
  view = view;
  kind = instrument.kind;
  name = unwrap_or settings.stream_name instrument.name;
  description = unwrap_or settings.description instrument.description;
  unit = instrument.unit;
  aggregation = settings.aggregation;
  boundaries = boundaries_for instrument settings;
  kept = map (is_kept settings.keep settings.exclude) instrument.keys;
  limit = settings.limit;
}

-- the stream of a reader with this aggregation
unfoldable pub stream_by : ℕ → Reader → Template → StreamAggregation → Stream
stream_by number reader template aggregation = record {
  reader = number;
  instrument = template.instrument;
  view = template.view;
  name = template.name;
  description = template.description;
  unit = template.unit;
  kind = template.kind;
  aggregation = aggregation;
  kept = template.kept;
  limit = unwrap_or template.limit (choice_for reader.limit template.kind);
  temporality = choice_for reader.temporality template.kind;
}

abbrev pub kept_or_dropped : (StreamAggregation → Stream) → Option StreamAggregation → Fill
kept_or_dropped stream None = Dropped
kept_or_dropped stream (Some aggregation) = Kept (stream aggregation)

abbrev pub unless_unfit : Bool → Fill → Fill
unless_unfit true fill = Unfit
unless_unfit false fill = fill

-- # stream of a view (SDK, View, stream configuration) [fill_by, fill_at]
-- What a view, or the default, makes of an instrument for a reader: unfit, dropped, or a stream
-- with all its fields.
unfoldable pub fill_by : ℕ → Reader → Template → Fill
fill_by number reader template =
    unless_unfit
    (is_unfit template.kind (chosen_aggregation reader template.kind template.aggregation))
    (kept_or_dropped (stream_by number reader template) (aggregation_with (chosen_aggregation reader
    template.kind template.aggregation) template.kind template.boundaries))

-- what the view of a number gives, or nothing for the default
abbrev pub settings_at : List View → Option ℕ → Option Settings
settings_at views None = Some no_settings
settings_at views (Some number) = option_map (λ view. view.settings) (slice_get views number)

abbrev pub fill_with : ℕ → ℕ → Option ℕ → Option Reader → Option Instrument
    → Option Settings → Option Fill
fill_with reader number view (Some r) (Some i) (Some settings) =
    Some (fill_by reader r (template_of number i view settings))
fill_with reader number view _ _ _ = None

-- what the view of a number, or the default without one, makes of the instrument of a
-- number for the reader of a number
abbrev pub fill_at : Contents → Config → ℕ → ℕ → Option ℕ → Option Fill
fill_at contents config reader number view =
    fill_with reader number view (slice_get config.readers reader)
    (slice_get contents.instruments number) (settings_at config.views view)
