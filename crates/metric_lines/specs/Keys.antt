-- How the keys of a stream are written: as attributes with their values, and by name.
use Rattle.std.specs.Prelude.{ℕ, Bool, true, false, ◌-◌, ◌==◌, if◌then◌else◌, List, Option, Some}
use Rattle.std.specs.Prelude.{None, codes, slice_get}
use Rattle.std.specs.List.{filter_map, zip}
use Rattle.std.specs.Option.{option_map}
use Rattle.metric_names.specs.declared.value.AttrValue.{AttrValue}
use Rattle.metric_names.specs.declared.value.AttrValue.TheVariants.{Flag}
use Rattle.metric_text.specs.Lists.{joined}
use Rattle.metric_text.specs.Written.{pair_text, quoted}
use Rattle.metric_contents.specs.declared.contents.Key.{Key}

-- an attribute: a key's name with its value
abbrev pub Attribute : Type 0
Attribute = List ℕ × AttrValue

-- a key in quotes with its value
abbrev pub attribute_text : Attribute → List ℕ
attribute_text attribute = pair_text attribute.0 attribute.1

-- the value that an entry of a set key names: one less is the value's number,
-- and 0 says that the key is absent
abbrev pub value_at : List AttrValue → ℕ → Option AttrValue
value_at values entry = if entry == 0 then None else slice_get values (entry - 1)

-- the attribute of a key, where it is kept and its entry names a value
abbrev pub attribute_of : Key → Bool → ℕ → Option Attribute
attribute_of key true entry = option_map (λ value. (key.name, value)) (value_at key.values entry)
attribute_of key false entry = None

-- the attributes of a set key: of the declared keys in order those that are kept and present
abbrev pub attributes_of : List Key → List Bool → List ℕ → List Attribute
attributes_of keys kept set =
    filter_map (λ x. attribute_of x.0 x.1.0 x.1.1) (zip keys (zip kept set))

-- # attributes of a series (SDK, cardinality limits, overflow attribute)
-- Of the declared keys in order those that are kept and present, with their values; the overflow
-- series has `otel.metric.overflow`.
unfoldable pub series_text : List Key → List Bool → Option (List ℕ) → List ℕ
series_text keys kept (Some set) = joined attribute_text (attributes_of keys kept set)
series_text keys kept None = pair_text (codes "otel.metric.overflow") (Flag true)

-- the name of a key, where it is kept
abbrev pub kept_name : Key → Bool → Option (List ℕ)
kept_name key true = Some key.name
kept_name key false = None

-- the names of the kept keys, in declared order
abbrev pub kept_names : List Key → List Bool → List (List ℕ)
kept_names keys kept = filter_map (λ x. kept_name x.0 x.1) (zip keys kept)

-- the same in quotes, with commas between
unfoldable pub names_text : List Key → List Bool → List ℕ
names_text keys kept = joined quoted (kept_names keys kept)
