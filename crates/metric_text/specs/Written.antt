-- How texts and values are written.
use Rattle.std.specs.Prelude.{ℕ, Bool, true, false, ◌==◌, if◌then◌else◌, List, [], ◌∷◌, ◌++◌}
use Rattle.std.specs.Prelude.{Option, Some, None, codes, IsUtf8, FitsSigned}
use Rattle.std.specs.Int.{w64}
use Rattle.std.specs.Fmt.{signed_decimal}
use Rattle.std.specs.List.{flat_map}
use Rattle.std.specs.Option.{option_map_or}
use Rattle.metric_names.specs.declared.value.AttrValue.{AttrValue}
use Rattle.metric_names.specs.declared.value.AttrValue.TheVariants.{Text, Whole, Flag}

-- the letter that stands for a byte after a backslash: for a quote, a backslash, a line feed, a
-- carriage return and a tab. Every other byte stands for itself.
abbrev pub letter_of : ℕ → Option ℕ
letter_of b =
    if b == 34 then Some 34 else (
    if b == 92 then Some 92 else (
    if b == 10 then Some 110 else (
    if b == 13 then Some 114 else (
    if b == 9 then Some 116 else None))))

-- a byte inside quotes
abbrev pub escape : ℕ → List ℕ
escape b = option_map_or (λ letter. 92 ∷ letter ∷ []) (letter_of b) (b ∷ [])

-- # text in quotes (profile) [quoted, escape]
-- `"`, the characters, `"`; quote, backslash, line feed, carriage return and tab are written with a
-- backslash, all else stands for itself.
abbrev pub quoted : List ℕ → List ℕ
quoted text = 34 ∷ (flat_map escape text ++ 34 ∷ [])

abbrev pub flag_text : Bool → List ℕ
flag_text true = codes "true"
flag_text false = codes "false"

-- # spelling of a value (profile)
-- A text in quotes, an i64 in decimal, `true` or `false`.
abbrev pub value_text : AttrValue → List ℕ
value_text (Text text) = quoted text
value_text (Whole number) = signed_decimal number
value_text (Flag flag) = flag_text flag

-- # key with its value (profile)
-- The quoted key, `=`, the value.
abbrev pub pair_text : List ℕ → AttrValue → List ℕ
pair_text key value = quoted key ++ (61 ∷ value_text value)

-- a value that a program can hold: a text is UTF-8, and a number is an i64
abbrev pub IsValue : AttrValue → Type 0
IsValue (Text text) = IsUtf8 text
IsValue (Whole number) = FitsSigned w64 number
IsValue (Flag flag) = Unit {0}
