-- The labels of a series: of its keys and their values, and of its scope.
use Rattle.std.specs.Prelude.{ℕ, Bool, false, ◌||◌, ◌==◌, List, [], ◌∷◌, ◌++◌, Option, Some, None, codes}
use Rattle.std.specs.Prelude.{filter, if◌then◌else◌, length, map}
use Rattle.std.specs.Char.{is_ascii_alphanumeric, is_ascii_digit}
use Rattle.std.specs.Str.{bytes_eq}
use Rattle.metric_names.specs.Values.{value_text}
use Rattle.metric_contents.specs.declared.contents.Key.{Key}
use Rattle.metric_contents.specs.declared.contents.Meter.{Meter}
use Rattle.metric_lines.specs.Keys.{Attribute, attributes_of}
use Rattle.metric_family.specs.Words.{is_between, is_some}

-- what is left of one character: a letter or a digit stands, and the first of others is a `_`;
-- whether another one stands before it
abbrev pub squeezed_one : Bool → ℕ → List ℕ
squeezed_one between c =
    if is_ascii_alphanumeric c then c ∷ [] else (if between then [] else 95 ∷ [])

-- each run of others than ASCII letters and digits as one `_`
abbrev pub squeezed : Bool → List ℕ → List ℕ
squeezed between [] = []
squeezed between (c ∷ text) = squeezed_one between c ++ squeezed (is_between c) text

-- a label does not begin with a digit
abbrev pub unless_key : List ℕ → List ℕ
unless_key [] = []
unless_key (c ∷ label) = if is_ascii_digit c then codes "key_" ++ c ∷ label else c ∷ label

-- # label (Prometheus, naming by the Collector)
-- A key with one `_` for each run of others than letters and digits.
unfoldable pub label_of : List ℕ → List ℕ
label_of key = unless_key (squeezed false key)

-- a label that says nothing of its key
abbrev pub is_bad : List ℕ → Bool
is_bad label = bytes_eq label (codes "_") || length label == 0

-- a label with its text
abbrev pub Label : Type 0
Label = List ℕ × List ℕ

-- the label of an attribute: a text as it stands, a number in decimal, `true` or `false`
abbrev pub attribute_label : Attribute → Label
attribute_label attribute = (label_of attribute.0, value_text attribute.1)

-- the labels of a series, or the mark of the overflow series
abbrev pub series_labels : List Key → List Bool → Option (List ℕ) → List Label
series_labels keys kept (Some set) = map attribute_label (attributes_of keys kept set)
series_labels keys kept None = (codes "otel_metric_overflow", codes "true") ∷ []

-- the labels of a scope
abbrev pub scope_names : List (List ℕ)
scope_names =
    codes "otel_scope_name" ∷ codes "otel_scope_version" ∷ codes "otel_scope_schema_url" ∷ []

abbrev pub scope_labels : Meter → List Label
scope_labels meter =
    (codes "otel_scope_name", meter.name)
    ∷ (codes "otel_scope_version", meter.version)
    ∷ (codes "otel_scope_schema_url", meter.schema_url) ∷ []

-- # labels of a point (profile) [point_labels, shown]
-- Those of its kept and present keys, and those of its scope.
unfoldable pub point_labels : Meter → List Key → List Bool → Option (List ℕ) → List Label
point_labels meter keys kept set = series_labels keys kept set ++ scope_labels meter

-- a label whose text is empty is left out
abbrev pub shown : List Label → List Label
shown labels = filter (λ (label : Label). is_some label.1) labels
