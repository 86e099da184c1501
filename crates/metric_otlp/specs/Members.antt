-- Members as the code has them.
use Rattle.std.specs.Prelude.{ℕ, Bool, false, not, ◌==◌, List, [], Option, codes}
use Rattle.std.specs.Prelude.{is_none, length}
use Rattle.std.specs.Fmt.{decimal, signed_decimal}
use Rattle.std.specs.Option.{option_map_or}
use Rattle.metric_text.specs.Lists.{joined, list_text}
use Rattle.metric_otlp.specs.Json.{bracketed, digits, named, quoted, signed_digits, unless}
use Rattle.metric_otlp.specs.Json.{text_member, some_text_member, count_member, signed_member, time_member}
use Rattle.metric_otlp.specs.Json.{enum_member, flag_member, double_member, counts_member, doubles_member}
use Rattle.metric_otlp.specs.Json.{items_member, object_member}
use Rattle.metric_otlp.specs.declared.member.Member.{Member}
use Rattle.metric_otlp.specs.declared.member.Member.TheVariants.{Text, SomeText, Count, Signed, Time, Enum, Flag}
use Rattle.metric_otlp.specs.declared.member.Member.TheVariants.{Double, Counts, Doubles, Items, Object}

-- the member is left out
abbrev pub is_left_out : Member → Bool
is_left_out (Text name text) = false
is_left_out (SomeText name text) = length text.now == 0
is_left_out (Count name number) = false
is_left_out (Signed name number) = false
is_left_out (Time name number) = number == 0
is_left_out (Enum name number) = number == 0
is_left_out (Flag name flag) = not flag
is_left_out (Double name number) = is_none number
is_left_out (Counts name numbers) = length numbers.now == 0
is_left_out (Doubles name numbers) = length numbers.now == 0
is_left_out (Items name items) = length items.now == 0
is_left_out (Object name text) = false

-- its value as it is written
abbrev pub value_json : Member → List ℕ
value_json (Text name text) = quoted text.now
value_json (SomeText name text) = quoted text.now
value_json (Count name number) = digits number
value_json (Signed name number) = signed_digits number
value_json (Time name number) = digits number
value_json (Enum name number) = decimal number
value_json (Flag name flag) = codes "true"
value_json (Double name number) = option_map_or signed_decimal number []
value_json (Counts name numbers) = bracketed (joined digits numbers.now)
value_json (Doubles name numbers) = list_text signed_decimal numbers.now
value_json (Items name items) = bracketed items.now
value_json (Object name text) = text.now

-- its name
abbrev pub name_of : Member → List ℕ
name_of (Text name value) = name.now
name_of (SomeText name value) = name.now
name_of (Count name value) = name.now
name_of (Signed name value) = name.now
name_of (Time name value) = name.now
name_of (Enum name value) = name.now
name_of (Flag name value) = name.now
name_of (Double name value) = name.now
name_of (Counts name value) = name.now
name_of (Doubles name value) = name.now
name_of (Items name value) = name.now
name_of (Object name value) = name.now

-- a member, unless it is left out
abbrev pub shown : Member → Option (List ℕ)
shown member = unless (is_left_out member) (named (name_of member) (value_json member))

-- the same by what the member has
abbrev pub member_json : Member → Option (List ℕ)
member_json (Text name text) = text_member name.now text.now
member_json (SomeText name text) = some_text_member name.now text.now
member_json (Count name number) = count_member name.now number
member_json (Signed name number) = signed_member name.now number
member_json (Time name number) = time_member name.now number
member_json (Enum name number) = enum_member name.now number
member_json (Flag name flag) = flag_member name.now flag
member_json (Double name number) = double_member name.now number
member_json (Counts name numbers) = counts_member name.now numbers.now
member_json (Doubles name numbers) = doubles_member name.now numbers.now
member_json (Items name items) = items_member name.now items.now
member_json (Object name text) = object_member name.now text.now
