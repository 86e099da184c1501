-- Keys whose labels or whose values' texts do not tell them apart.
use Rattle.std.specs.Prelude.{ℕ, Bool, true, ◌&&◌, ◌||◌, List, [], ◌∷◌, ◌++◌, Option, Some, None}
use Rattle.std.specs.Prelude.{codes, if◌then◌else◌, length, map, slice_get, take}
use Rattle.std.specs.List.{cons_option, flat_map, list_any, range_with_len}
use Rattle.std.specs.Option.{option_map_or}
use Rattle.metric_contents.specs.declared.contents.Key.{Key}
use Rattle.metric_contents.specs.declared.contents.Meter.{Meter}
use Rattle.metric_contents.specs.Places.{has_repeat}
use Rattle.metric_lines.specs.Keys.{kept_names}
use Rattle.metric_family.specs.declared.metric_type.MetricType.{MetricType}
use Rattle.metric_family.specs.declared.metric_type.MetricType.TheVariants.{Counter, Gauge}
use Rattle.metric_family.specs.declared.metric_type.MetricType.TheVariants.{Histogram}
use Rattle.metric_family.specs.Labels.{Label, is_bad, label_of, scope_labels, shown}
use Rattle.metric_family.specs.Words.{is_among}
use Rattle.metric_exposure.specs.declared.fault.ExposureFault.{ExposureFault}
use Rattle.metric_exposure.specs.declared.fault.ExposureFault.TheVariants as faults
use Rattle.metric_exposure.specs.KeyTexts.{is_empty_text, texts_of}
use Rattle.metric_exposure.specs.Renames.{merged_labels, server_labels}

-- the labels of a type: what marks the overflow series, and the boundaries of buckets
abbrev pub type_labels : MetricType → List (List ℕ)
type_labels Counter = codes "otel_metric_overflow" ∷ []
type_labels Gauge = codes "otel_metric_overflow" ∷ []
type_labels Histogram = codes "le" ∷ codes "otel_metric_overflow" ∷ []

-- those of a scope: one whose text is empty stands in no line
abbrev pub scope_taken : Meter → List (List ℕ)
scope_taken meter = map (λ (label : Label). label.0) (shown (scope_labels meter))

-- # labels that no key may have (profile) [reserved_labels, taken_labels]
-- Those that a line has beside its keys', those under which a server would make two series one, and
-- those of the keys before it.
unfoldable pub reserved_labels : MetricType → Option Meter → List Key → List Bool → List (List ℕ)
reserved_labels type meter keys kept =
    (type_labels type ++ option_map_or scope_taken meter [])
    ++ flat_map (merged_labels keys kept) server_labels

unfoldable pub taken_labels : List (List ℕ) → List Key → List Bool → List (List ℕ)
taken_labels reserved keys kept = reserved ++ map label_of (kept_names keys kept)

-- the fault of a label, where these are taken
abbrev pub label_fault : ℕ → ℕ → List (List ℕ) → List ℕ → Option ExposureFault
label_fault stream key taken label =
    if is_bad label then Some (faults.BadLabel stream key) else
    if is_among taken label then Some (faults.LabelCollision stream key) else None

-- the key may be absent, and a value has the empty text; or two values have one text
unfoldable pub are_confused : Key → Bool
are_confused key =
    (key.optional && list_any is_empty_text (texts_of key)) || has_repeat (texts_of key)

abbrev pub value_fault : ℕ → ℕ → Key → Option ExposureFault
value_fault stream key own =
    if are_confused own then Some (faults.ValueCollision stream key) else None

-- # faults of a key (profile) [key_faults, all_key_faults]
-- That its label says nothing or is taken, and that two of its values, or a value and its absence,
-- look alike.
abbrev pub key_faults : ℕ → ℕ → List (List ℕ) → Key → List ExposureFault
key_faults stream key taken own =
    cons_option (label_fault stream key taken (label_of own.name))
    (cons_option (value_fault stream key own) [])

-- the same of a key, where it is kept
abbrev pub kept_faults : ℕ → List (List ℕ) → List Key → List Bool → ℕ → Option Key → Option Bool
    → List ExposureFault
kept_faults stream reserved keys kept place (Some key) (Some true) =
    key_faults stream place (taken_labels reserved (take place keys) (take place kept)) key
kept_faults stream reserved keys kept place _ _ = []

-- the faults of the key at a place
unfoldable pub place_faults : ℕ → List (List ℕ) → List Key → List Bool → ℕ → List ExposureFault
place_faults stream reserved keys kept place =
    kept_faults stream reserved keys kept place (slice_get keys place) (slice_get kept place)

-- the faults of a stream's kept keys, in declared order, none of which may have these labels
unfoldable pub all_key_faults : ℕ → List (List ℕ) → List Key → List Bool → List ExposureFault
all_key_faults stream reserved keys kept =
    flat_map (place_faults stream reserved keys kept) (range_with_len 0 (length keys))
