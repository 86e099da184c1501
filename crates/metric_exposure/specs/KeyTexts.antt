-- The texts of a key's values.
use Rattle.std.specs.Prelude.{Bool, false, ◌==◌, List, length, map}
use Rattle.metric_names.specs.declared.value.AttrValue.{AttrValue}
use Rattle.metric_names.specs.declared.value.AttrValue.TheVariants.{Text, Whole, Flag}
use Rattle.metric_names.specs.Values.{value_text}
use Rattle.metric_contents.specs.declared.contents.Key.{Key}

-- the text of a value, as a value
abbrev pub text_value : AttrValue → AttrValue
text_value value = Text (value_text value)

abbrev pub is_empty_text : AttrValue → Bool
is_empty_text (Text text) = length text == 0
is_empty_text (Whole number) = false
is_empty_text (Flag flag) = false

-- the texts of a key's values, as values
abbrev pub texts_of : Key → List AttrValue
texts_of key = map text_value key.values
