-- Attribute values: borrowed, and as they are printed.
use Rattle.std.specs.Prelude.{ℕ, List, codes, if◌then◌else◌}
use Rattle.std.specs.Fmt.{signed_decimal}
use Rattle.metric_names.specs.declared.value.AttrValue.{AttrValue}
use Rattle.metric_names.specs.declared.value.AttrValue.TheVariants as owned
use Rattle.metric_names.specs.declared.value.ValueRef.{ValueRef}
use Rattle.metric_names.specs.declared.value.ValueRef.TheVariants.{Text, Whole, Flag}

-- # borrowed value (Common, attribute)
-- The attribute value that a borrowed one stands for.
abbrev pub value_of : ValueRef → AttrValue
value_of (Text text) = owned.Text text.now
value_of (Whole number) = owned.Whole number
value_of (Flag flag) = owned.Flag flag

-- # printed value (profile)
-- A text as it stands, a number in decimal digits, a flag in its word.
abbrev pub value_text : AttrValue → List ℕ
value_text (owned.Text text) = text
value_text (owned.Whole number) = signed_decimal number
value_text (owned.Flag flag) = if flag then codes "true" else codes "false"

-- # attribute value (Common, attribute) [AttrValue]
-- A text, a whole number of 64 bits or a flag; equal where type and value are equal.
