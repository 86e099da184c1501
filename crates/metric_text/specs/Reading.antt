-- What stands at the front of a line, with what follows it. Nothing where the front is spelled
-- otherwise.
use Rattle.std.specs.Prelude.{◌≡◌, ℕ, ◌^◌, Bool, true, false, ◌&&◌, ◌==◌, nat_lt, if◌then◌else◌}
use Rattle.std.specs.Prelude.{List, [], ◌∷◌, ◌++◌, Option, Some, None, Result, Ok, Err, is_some}
use Rattle.std.specs.Prelude.{option_and_then, codes, ℤ}
use Rattle.std.specs.Fmt.{decimal, signed_decimal}
use Rattle.std.specs.Int.Signed.{mag}
use Rattle.std.specs.Option.{option_map}
use Rattle.std.specs.Str.{bytes_eq, is_utf8}
use Rattle.std.specs.Str.Parse.{digits_value, signed_digits_value}
use Rattle.metric_names.specs.declared.value.AttrValue.{AttrValue}
use Rattle.metric_names.specs.declared.value.AttrValue.TheVariants.{Text, Whole, Flag}
use Rattle.metric_text.specs.Written.{letter_of}
use Rattle.metric_text.specs.declared.fault.SpellingFault.{SpellingFault}
use Rattle.metric_text.specs.declared.fault.SpellingFault.TheVariants.{Bad, Memory}

infixl 10 ◌>>=◌
abbrev pub ◌>>=◌ : {A B : Type 0} → Option A → (A → Option B) → Option B
o >>= f = option_and_then f o

-- What a function returned is what reading gives, unless memory ran out.
abbrev pub Tells : {X Y : Type 0} → (X → Y) → Result X SpellingFault → Option Y → Type 0
Tells view (Ok x) read = read ≡ Some (view x)
Tells view (Err Bad) read = read ≡ None
Tells view (Err Memory) read = Unit {0}

-- # what stands first (profile) [after_in, number_in, signed_in, text_in, value_in]
-- A keyword, a number, a text in quotes or a value, with what follows it.
abbrev pub after_in : List ℕ → List ℕ → Option (List ℕ)
after_in [] bytes = Some bytes
after_in (c ∷ keyword) [] = None
after_in (c ∷ keyword) (b ∷ bytes) = if c == b then after_in keyword bytes else None

-- a word ends at a space or at the line's end
abbrev pub is_space : ℕ → Bool
is_space b = b == 32

-- the bytes before the first that passes, and the rest from that byte on
abbrev pub split_before : (ℕ → Bool) → List ℕ → List ℕ × List ℕ
split_before passes [] = ([], [])
split_before passes (b ∷ bytes) =
    if passes b then ([], b ∷ bytes)
    else (b ∷ (split_before passes bytes).0, (split_before passes bytes).1)

-- # word (profile)
-- The bytes up to the first space or the end.
abbrev pub word_in : List ℕ → List ℕ × List ℕ
word_in bytes = split_before is_space bytes

-- # number that a word spells (profile) [number_of, signed_of]
-- The one whose decimal spelling the word is, within the type's limit.
unfoldable pub number_of : ℕ → List ℕ → Option ℕ
number_of limit word =
    if nat_lt (digits_value 10 word) limit && bytes_eq (decimal (digits_value 10 word)) word
    then Some (digits_value 10 word) else None

-- a word that is the decimal spelling of an i64
unfoldable pub signed_of : List ℕ → Option ℤ
signed_of word =
    if nat_lt (mag (signed_digits_value 10 word)) (2 ^ 63)
    && bytes_eq (signed_decimal (signed_digits_value 10 word)) word
    then Some (signed_digits_value 10 word) else None

unfoldable pub number_in : ℕ → List ℕ → Option (ℕ × List ℕ)
number_in limit bytes = do
  number ← number_of limit (word_in bytes).0
  Some (number, (word_in bytes).1)

unfoldable pub signed_in : List ℕ → Option (ℤ × List ℕ)
signed_in bytes = do
  number ← signed_of (word_in bytes).0
  Some (number, (word_in bytes).1)

-- a byte that is written with a backslash inside quotes
abbrev pub is_special : ℕ → Bool
is_special b = is_some (letter_of b)

-- the byte that a letter after a backslash stands for
abbrev pub byte_of : ℕ → Option ℕ
byte_of letter =
    if letter == 34 then Some 34 else (
    if letter == 92 then Some 92 else (
    if letter == 110 then Some 10 else (
    if letter == 114 then Some 13 else (
    if letter == 116 then Some 9 else None))))

-- a text with its front put before it
abbrev pub with_front : List ℕ → Option (List ℕ × List ℕ) → Option (List ℕ × List ℕ)
with_front front read = option_map (λ x. (front ++ x.0, x.1)) read

-- the byte of an escape that stands first, with what follows
abbrev pub escaped_in : List ℕ → Option (ℕ × List ℕ)
escaped_in [] = None
escaped_in (b ∷ []) = None
escaped_in (b ∷ letter ∷ rest) =
    if b == 92 then option_map (λ c. (c, rest)) (byte_of letter) else None

-- The bytes up to the closing quote, and what follows it. The flag says whether a backslash stands
-- before.
unfoldable pub unquoted_in : Bool → List ℕ → Option (List ℕ × List ℕ)
unquoted_in escaped [] = None
unquoted_in true (letter ∷ bytes) =
    byte_of letter >>= λ b. with_front (b ∷ []) (unquoted_in false bytes)
unquoted_in false (b ∷ bytes) =
    if b == 34 then Some ([], bytes) else (
    if b == 92 then unquoted_in true bytes else (
    if is_special b then None else
    with_front (b ∷ []) (unquoted_in false bytes)))

-- a text that was read up to a quote, with what follows the quote
abbrev pub closed_in : List ℕ → List ℕ → Option (List ℕ × List ℕ)
closed_in text bytes = option_map (λ rest. (text, rest)) (after_in (34 ∷ []) bytes)

-- a text in quotes
unfoldable pub text_in : List ℕ → Option (List ℕ × List ℕ)
text_in bytes = do
  start ← after_in (34 ∷ []) bytes
  read ← unquoted_in false start
  if is_utf8 read.0 then Some read else None

-- a word that is a number or a flag
unfoldable pub bare_of : List ℕ → Option AttrValue
bare_of word =
    if bytes_eq word (codes "true") then Some (Flag true) else (
    if bytes_eq word (codes "false") then Some (Flag false) else
    option_map (λ number. Whole number) (signed_of word))

unfoldable pub bare_in : List ℕ → Option (AttrValue × List ℕ)
bare_in bytes = do
  value ← bare_of (word_in bytes).0
  Some (value, (word_in bytes).1)

unfoldable pub quoted_value_in : List ℕ → Option (AttrValue × List ℕ)
quoted_value_in bytes = do
  read ← text_in bytes
  Some (Text read.0, read.1)

-- an attribute's value: a text in quotes, or a word that is a number or a flag
unfoldable pub value_in : List ℕ → Option (AttrValue × List ℕ)
value_in bytes = if is_some (after_in (34 ∷ []) bytes) then quoted_value_in bytes else bare_in bytes
