-- Attributes in JSON.
use Rattle.std.specs.Prelude.{ℕ, Bool, true, false, List, [], ◌∷◌, Option, Some, None, codes}
use Rattle.metric_names.specs.declared.value.AttrValue.{AttrValue}
use Rattle.metric_names.specs.declared.value.AttrValue.TheVariants.{Text, Whole, Flag}
use Rattle.metric_contents.specs.declared.contents.Key.{Key}
use Rattle.metric_text.specs.Lists.{joined}
use Rattle.metric_lines.specs.Keys.{Attribute, attributes_of}
use Rattle.metric_otlp.specs.Json.{object, object_member, signed_member, text_member}

abbrev pub flag_json : Bool → List ℕ
flag_json true = codes "{\"boolValue\":true}"
flag_json false = codes "{\"boolValue\":false}"

-- a value: a text, a number, or a flag
abbrev pub any_value_json : AttrValue → List ℕ
any_value_json (Text text) = object (text_member (codes "stringValue") text ∷ [])
any_value_json (Whole number) = object (signed_member (codes "intValue") number ∷ [])
any_value_json (Flag flag) = flag_json flag

-- an attribute: its key, and its value
unfoldable pub attribute_json : Attribute → List ℕ
attribute_json attribute = object (
    text_member (codes "key") attribute.0
    ∷ object_member (codes "value") (any_value_json attribute.1) ∷ [])

-- the attributes of a series, or the mark of the overflow series, with commas between
unfoldable pub series_json : List Key → List Bool → Option (List ℕ) → List ℕ
series_json keys kept (Some set) = joined attribute_json (attributes_of keys kept set)
series_json keys kept None = attribute_json (codes "otel.metric.overflow", Flag true)
