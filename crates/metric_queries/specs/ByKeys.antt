-- The same key by key: of which entries each key can be, whatever the others are.
use Rattle.std.specs.Prelude.{◌≡◌, ℕ, Bool, true, false, not, ◌&&◌, ◌||◌, List, [], ◌∷◌}
use Rattle.std.specs.Prelude.{Option, Some, None, codes, map, nat_lt}
use Rattle.std.specs.Prelude.{slice_get, slice_index_or}
use Rattle.std.specs.List.{list_all, list_any, zip}
use Rattle.std.specs.Str.{bytes_eq}
use Rattle.metric_names.specs.Values.{value_text}
use Rattle.metric_contents.specs.declared.contents.Contents.{Contents}
use Rattle.metric_contents.specs.declared.contents.Key.{Key}
use Rattle.metric_contents.specs.declared.contents.Meter.{Meter}
use Rattle.metric_bounds.specs.Sets.{sets_of}
use Rattle.metric_views.specs.declared.stream.Stream.{Stream}
use Rattle.metric_family.specs.declared.metric_type.MetricType.{MetricType}
use Rattle.metric_family.specs.declared.metric_type.MetricType.TheVariants.{Histogram}
use Rattle.metric_family.specs.Families.{type_of}
use Rattle.metric_family.specs.Labels.{Label, label_of, scope_labels}
use Rattle.metric_family.specs.Words.{is_among}
use Rattle.metric_exposure.specs.Sources.{meter_of}
use Rattle.metric_exposure.specs.Laws.{text_at}
use Rattle.metric_exposition.specs.declared.dialect.Dialect.{Dialect}
use Rattle.metric_queries.specs.Matching.{is_open, kept_labels, name_label}
use Rattle.metric_queries.specs.Samples.{samples_of}
use Rattle.metric_queries.specs.Tests.{takes}
use Rattle.metric_queries.specs.declared.asked.Asked.{Asked}
use Rattle.metric_queries.specs.declared.sample.Sample.{Sample}
use Rattle.metric_queries.specs.declared.served.Served.{Served}

-- each matcher of a label takes a text
abbrev pub takes_at : List ℕ → List ℕ → List Asked → Bool
takes_at label text asked =
    list_all (λ one. not (bytes_eq one.label label) || takes one.test text) asked

-- ---- the sample

abbrev pub is_histogram : MetricType → Bool
is_histogram Histogram = true
is_histogram type = false

-- the boundary of a bucket is asked for where there are buckets; else `le` is any key's label
abbrev pub has_mark : MetricType → List Asked → Sample → Bool
has_mark type asked sample =
    not (is_histogram type) || list_any (λ mark. takes_at (codes "le") mark asked) sample.marks

abbrev pub is_sample_asked : MetricType → List Asked → Sample → Bool
is_sample_asked type asked sample =
    takes_at name_label sample.name asked && has_mark type asked sample

-- ---- the labels that each line has alike

-- a label of the name or of a bucket, or one that is not judged
abbrev pub is_free : List (List ℕ) → MetricType → List (List ℕ) → List ℕ → Bool
is_free added type labels label =
    (bytes_eq label name_label || (is_histogram type && bytes_eq label (codes "le")))
    || is_open added labels label

-- another one, which no kept key has
abbrev pub is_fixed : List (List ℕ) → MetricType → List (List ℕ) → List ℕ → Bool
is_fixed added type labels label =
    not (is_free added type labels label || is_among labels label)

-- each matcher of such a label takes its text, empty where no line has it
abbrev pub takes_fixed : List (List ℕ) → MetricType → List (List ℕ) → List Label → List Asked → Bool
takes_fixed added type labels scope asked =
    list_all (λ one. not (is_fixed added type labels one.label)
    || takes one.test (text_at scope one.label)) asked

-- ---- the keys

-- the matchers of a key's label count: it is kept, and its label is judged
abbrev pub is_judged : List (List ℕ) → List (List ℕ) → Bool → List ℕ → Bool
is_judged added labels kept label = kept && not (is_open added labels label)

-- a text under a label is asked for, where its matchers count
abbrev pub is_text_asked : Bool → List ℕ → List Asked → List ℕ → Bool
is_text_asked judged label asked text = not judged || takes_at label text asked

-- of the key's entries, from none on, which are asked for: none only where it may be left out
abbrev pub mask_of : Bool → Key → List Asked → List Bool
mask_of judged key asked =
    (key.optional && is_text_asked judged (label_of key.name) asked [])
    ∷ map (λ value. is_text_asked judged (label_of key.name) asked (value_text value)) key.values

-- the same of a key that is kept or not
abbrev pub mask_at : List (List ℕ) → List (List ℕ) → List Asked → Key × Bool → List Bool
mask_at added labels asked x =
    mask_of (is_judged added labels x.1 (label_of x.0.name)) x.0 asked

abbrev pub masks_of : List (List ℕ) → List (List ℕ) → List Key → List Bool → List Asked
    → List (List Bool)
masks_of added labels keys kept asked = map (mask_at added labels asked) (zip keys kept)

-- a row has an entry that is asked for of each key
abbrev pub is_row_asked : List (List Bool) → List ℕ → Bool
is_row_asked masks row = list_all (λ x. slice_index_or x.0 x.1 false) (zip masks row)

-- where no combinations are listed, each key has one, whatever the others are
abbrev pub has_set : List (List Bool) → Option (List (List ℕ)) → Bool
has_set masks None = list_all (λ mask. list_any (λ is_asked. is_asked) mask) masks
has_set masks (Some rows) = list_any (is_row_asked masks) rows

-- ---- the overflow point

abbrev pub overflow_labels : Meter → List Label
overflow_labels meter = (codes "otel_metric_overflow", codes "true") ∷ scope_labels meter

-- a matcher of a label that the overflow point has alike in each line
abbrev pub takes_overflow : List (List ℕ) → MetricType → List (List ℕ) → Meter → List Asked → Bool
takes_overflow added type labels meter asked =
    list_all (λ one. is_free added type labels one.label
    || takes one.test (text_at (overflow_labels meter) one.label)) asked

-- ---- all together

-- # selector that can match, key by key (profile)
-- The stream has a sample that is asked for, and each key an entry, or some row of the allowed
-- combinations has one of each; or the overflow point is asked for, where it can be.
abbrev pub served_matches : List (List ℕ) → Served → List Asked → Bool
served_matches added served asked =
    list_any (is_sample_asked served.kind asked) served.samples
    && ((takes_fixed added served.kind served.kept_labels (scope_labels served.meter.now) asked
    && has_set (masks_of added served.kept_labels served.instrument.now.keys served.stream.now.kept
    asked) served.instrument.now.allowed)
    || (served.can_overflow
    && takes_overflow added served.kind served.kept_labels served.meter.now asked))

-- It is a stream of these contents, with the samples and the labels that it has.
pub record IsServed (dialect : Dialect) (contents : Contents) (stream : Stream) (served : Served)
    : Type 0 where
  pub is_stream : served.stream.now ≡ stream
  pub is_instrument : slice_get contents.instruments stream.instrument ≡ Some served.instrument.now
  pub is_meter : meter_of contents stream ≡ Some served.meter.now
  pub is_kind : served.kind ≡ type_of stream
  pub are_samples : served.samples ≡ samples_of dialect stream
  pub are_labels : served.kept_labels ≡ kept_labels contents stream
  pub is_overflow : served.can_overflow ≡ nat_lt stream.limit (sets_of contents stream)
