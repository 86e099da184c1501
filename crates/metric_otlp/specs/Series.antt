-- Attributes: messages `KeyValue` with an `AnyValue`.
use Rattle.std.specs.Prelude.{ℕ, Bool, true, false, ◌==◌, if◌then◌else◌, List, [], ◌++◌, Option}
use Rattle.std.specs.Prelude.{Some, None, codes, length}
use Rattle.std.specs.Int.{w64, cast_unsigned}
use Rattle.std.specs.List.{flat_map}
use Rattle.metric_names.specs.declared.value.AttrValue.{AttrValue}
use Rattle.metric_names.specs.declared.value.AttrValue.TheVariants.{Text, Whole, Flag}
use Rattle.metric_contents.specs.declared.contents.Key.{Key}
use Rattle.metric_lines.specs.Keys.{Attribute, attributes_of}
use Rattle.metric_wire.specs.Wire.{block, varint_field}

-- a text, which is left out where it is empty
unfoldable pub text_field : ℕ → List ℕ → List ℕ
text_field field text = if length text == 0 then [] else block field text

abbrev pub flag_number : Bool → ℕ
flag_number true = 1
flag_number false = 0

-- a value: a text, a flag, or a number in two's complement
abbrev pub any_value : AttrValue → List ℕ
any_value (Text text) = block 1 text
any_value (Flag flag) = varint_field 2 (flag_number flag)
any_value (Whole number) = varint_field 3 (cast_unsigned w64 number)

-- # attribute, attributes of a series (OTLP, common) [attribute_field, series_fields]
-- A message `KeyValue`; one for each key that is kept and present, or the mark of the overflow
-- series.
unfoldable pub attribute_field : ℕ → Attribute → List ℕ
attribute_field field attribute =
    block field (text_field 1 attribute.0 ++ block 2 (any_value attribute.1))

-- the attributes of a series: of the declared keys in order those that are kept and present, or the
-- mark of the overflow series
unfoldable pub series_fields : ℕ → List Key → List Bool → Option (List ℕ) → List ℕ
series_fields field keys kept (Some set) =
    flat_map (attribute_field field) (attributes_of keys kept set)
series_fields field keys kept None =
    attribute_field field (codes "otel.metric.overflow", Flag true)
