-- Attributes that are written once for all points of a stream.
use Rattle.std.specs.Prelude.{ℕ, ◌-◌, ◌==◌, if◌then◌else◌, Bool, true, false, List, [], Option, None}
use Rattle.std.specs.Prelude.{map, slice_get}
use Rattle.std.specs.List.{filter_map, zip}
use Rattle.metric_contents.specs.declared.contents.Key.{Key}
use Rattle.metric_lines.specs.Keys.{Attribute}
use Rattle.metric_otlp.specs.Series.{attribute_field}
use Rattle.metric_otlp.specs.SeriesJson.{attribute_json}
use Rattle.metric_otlp.specs.declared.series.Form.{Form}
use Rattle.metric_otlp.specs.declared.series.Form.TheVariants.{Bytes, Json}

-- an attribute in one of the two forms
abbrev pub written : Form → Attribute → List ℕ
written (Bytes field) attribute = attribute_field field attribute
written Json attribute = attribute_json attribute

-- the attribute of a key for each of its values, none where it is not kept
abbrev pub key_entries : Form → Key → Bool → List (List ℕ)
key_entries form key true = map (λ value. written form (key.name, value)) key.values
key_entries form key false = []

-- the same for each key
unfoldable pub all_entries : Form → List Key → List Bool → List (List (List ℕ))
all_entries form keys kept = map (λ x. key_entries form x.0 x.1) (zip keys kept)

-- what an entry of a set key stands for: nothing where the key is absent, or not kept
abbrev pub entry_at : List (List ℕ) → ℕ → Option (List ℕ)
entry_at entries entry = if entry == 0 then None else slice_get entries (entry - 1)

-- what the entries of a set key stand for
unfoldable pub entries_at : List (List (List ℕ)) → List ℕ → List (List ℕ)
entries_at all set = filter_map (λ x. entry_at x.0 x.1) (zip all set)
