-- Texts, numbers, lists and objects in JSON.
use Rattle.std.specs.Prelude.{ℕ, ℤ, ◌+◌, ◌/◌, ◌%◌, Bool, ◌==◌, nat_lt, if◌then◌else◌}
use Rattle.std.specs.Prelude.{List, [], ◌∷◌, ◌++◌, Option, Some, None, codes, is_none, length, not}
use Rattle.std.specs.Fmt.{decimal, signed_decimal}
use Rattle.std.specs.List.{filter_map, flat_map}
use Rattle.std.specs.Option.{option_map_or}
use Rattle.metric_text.specs.Lists.{joined, list_text}
use Rattle.metric_text.specs.Written.{letter_of}

-- a digit of base 16
abbrev pub hex_digit : ℕ → ℕ
hex_digit digit = if nat_lt digit 10 then 48 + digit else 87 + digit

-- a control character by its number in four digits; every other byte stands for itself
abbrev pub control : ℕ → List ℕ
control b =
    if nat_lt b 32
    then 92 ∷ 117 ∷ 48 ∷ 48 ∷ (48 + b / 16) ∷ hex_digit (b % 16) ∷ []
    else b ∷ []

-- a byte inside quotes: with a backslash a quote, a backslash, a line feed, a carriage return and a
-- tab
abbrev pub escape : ℕ → List ℕ
escape b = option_map_or (λ letter. 92 ∷ letter ∷ []) (letter_of b) (control b)

-- a text in quotes
unfoldable pub quoted : List ℕ → List ℕ
quoted text = 34 ∷ (flat_map escape text ++ 34 ∷ [])

-- the digits of a number in quotes, as 64 bits are written
unfoldable pub digits : ℕ → List ℕ
digits number = 34 ∷ (decimal number ++ 34 ∷ [])

unfoldable pub signed_digits : ℤ → List ℕ
signed_digits number = 34 ∷ (signed_decimal number ++ 34 ∷ [])

-- items in brackets
unfoldable pub bracketed : List ℕ → List ℕ
bracketed items = codes "[" ++ (items ++ codes "]")

-- a name with a value
unfoldable pub named : List ℕ → List ℕ → List ℕ
named name value = codes "\"" ++ (name ++ (codes "\":" ++ value))

-- a member of an object, unless it is left out
abbrev pub unless : Bool → List ℕ → Option (List ℕ)
unless out text = if out then None else Some text

-- # object (JSON)
-- The members that are not left out, with commas between.
unfoldable pub object : List (Option (List ℕ)) → List ℕ
object members =
    codes "{" ++ (joined (λ text. text) (filter_map (λ member. member) members) ++ codes "}")

-- a text; one that is left out where it is empty
unfoldable pub text_member : List ℕ → List ℕ → Option (List ℕ)
text_member name text = Some (named name (quoted text))

unfoldable pub some_text_member : List ℕ → List ℕ → Option (List ℕ)
some_text_member name text = unless (length text == 0) (named name (quoted text))

-- a number of 64 bits; one that may be negative; one that is left out where it is 0
unfoldable pub count_member : List ℕ → ℕ → Option (List ℕ)
count_member name number = Some (named name (digits number))

unfoldable pub signed_member : List ℕ → ℤ → Option (List ℕ)
signed_member name number = Some (named name (signed_digits number))

unfoldable pub time_member : List ℕ → ℕ → Option (List ℕ)
time_member name number = unless (number == 0) (named name (digits number))

-- a number of an enum, left out where it is 0
unfoldable pub enum_member : List ℕ → ℕ → Option (List ℕ)
enum_member name number = unless (number == 0) (named name (decimal number))

-- a flag, left out where it is not set
unfoldable pub flag_member : List ℕ → Bool → Option (List ℕ)
flag_member name flag = unless (not flag) (named name (codes "true"))

-- an optional double that is whole, in decimal
unfoldable pub double_member : List ℕ → Option ℤ → Option (List ℕ)
double_member name number =
    unless (is_none number) (named name (option_map_or signed_decimal number []))

-- numbers of 64 bits, and doubles that are whole, left out where there is none
unfoldable pub counts_member : List ℕ → List ℕ → Option (List ℕ)
counts_member name numbers =
    unless (length numbers == 0) (named name (bracketed (joined digits numbers)))

unfoldable pub doubles_member : List ℕ → List ℤ → Option (List ℕ)
doubles_member name numbers =
    unless (length numbers == 0) (named name (list_text signed_decimal numbers))

-- items that are written with commas between, left out where there is none
unfoldable pub items_member : List ℕ → List ℕ → Option (List ℕ)
items_member name items = unless (length items == 0) (named name (bracketed items))

-- an object
unfoldable pub object_member : List ℕ → List ℕ → Option (List ℕ)
object_member name text = Some (named name text)
