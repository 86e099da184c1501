-- What a field of a table is read as: its value, or the first of the faults.
use Rattle.std.specs.Prelude.{◌≡◌, ℕ, ℤ, pos, negsuc, codes, Bool, ◌&&◌, if◌then◌else◌, List, []}
use Rattle.std.specs.Prelude.{◌∷◌, length, Option, Some, None, Result, Ok, Err, nat_le, unwrap_or}
use Rattle.std.specs.List.{list_all, list_any}
use Rattle.std.specs.Option.{option_map}
use Rattle.std.specs.Str.{bytes_eq, chars}
use Rattle.toml.specs.Data.{Data, Items, no_items, item, Members, no_members, member, get_member}
use Rattle.toml.specs.Data.{as_str, as_integer, as_bool, as_array, as_table}
use Rattle.metric_base.specs.Steps.{◌>>=◌, require, require_some, each}
use Rattle.metric_table.specs.declared.faults.FieldFaults.{FieldFaults}
use denote.Ref.{Bor}

-- What a function returned, as it is seen, is what reading gives.
abbrev pub Reads : {X Y F : Type 0} → (X → Y) → Result X F → Result Y F → Type 0
Reads view (Ok x) read = read ≡ Ok (view x)
Reads view (Err fault) read = read ≡ Err fault

-- what a reference points to
abbrev pub now_of : Bor (List ℕ) → List ℕ
now_of text = text.now

-- the names of the fields that a table has
abbrev pub names_of : Members → List (List ℕ)
names_of no_members = []
names_of (member name d ms) = name ∷ names_of ms

-- the key is one of the names
abbrev pub is_among : List (List ℕ) → List ℕ → Bool
is_among names key = list_any (λ name. bytes_eq name key) names

-- # only these fields (profile)
-- The table has no field beside the names.
unfoldable pub only : {F : Type 0} → FieldFaults F → List (List ℕ) → Members → Result (Unit {0}) F
only faults names table = require (list_all (is_among names) (names_of table)) faults.unknown

-- # needed field (profile)
-- The value of a field, or MissingField.
unfoldable pub field : {F : Type 0} → FieldFaults F → List ℕ → Members → Result Data F
field faults name table = require_some (get_member name table) faults.missing

-- # text, whole number, flag, table, list (profile) [text_of, integer_of, flag_or, table_of,
-- list_of]
-- A value of that kind, or WrongKind; a list longer than its limit is TooMany.
unfoldable pub text_of : {F : Type 0} → FieldFaults F → Data → Result (List ℕ) F
text_of faults d = require_some (as_str d) faults.wrong_kind

-- # text of a field (profile) [text_field, optional_text]
-- The text of a needed field; the text of a field where the table has it.
unfoldable pub text_field : {F : Type 0} → FieldFaults F → List ℕ → Members → Result (List ℕ) F
text_field faults name table = do
  d ← field faults name table
  text_of faults d

-- a text, where there is one
abbrev pub text_within : {F : Type 0} → FieldFaults F → Option Data → Result (Option (List ℕ)) F
text_within faults None = Ok None
text_within faults (Some d) = do
  text ← text_of faults d
  Ok (Some text)

-- the text of a field, where the table has it
unfoldable pub optional_text : {F : Type 0} → FieldFaults F → List ℕ → Members
    → Result (Option (List ℕ)) F
optional_text faults name table = text_within faults (get_member name table)

-- # free text (profile) [short_text, short_text_of]
-- A text of at most 1,023 characters, or TooMany.
unfoldable pub short_text : {F : Type 0} → FieldFaults F → List ℕ → Result (List ℕ) F
short_text faults text = do
  _ ← require (nat_le (length (chars text)) 1023) faults.too_many
  Ok text

-- a whole number
unfoldable pub integer_of : {F : Type 0} → FieldFaults F → Data → Result ℤ F
integer_of faults d = require_some (as_integer d) faults.wrong_kind

-- a flag, or the default where there is no value
abbrev pub flag_within : {F : Type 0} → FieldFaults F → Bool → Option Data → Result Bool F
flag_within faults default None = Ok default
flag_within faults default (Some d) = require_some (as_bool d) faults.wrong_kind

-- the flag of a field, or the default where the table does not have it
unfoldable pub flag_or : {F : Type 0} → FieldFaults F → List ℕ → Bool → Members → Result Bool F
flag_or faults name default table = flag_within faults default (get_member name table)

-- a whole number that is not below the one number, and not above the other
abbrev pub number_between : ℕ → ℕ → ℤ → Option ℕ
number_between low high (pos n) = if nat_le low n && nat_le n high then Some n else None
number_between low high (negsuc n) = None

-- # format field (profile)
-- The field `format` is a whole number from 1 to the latest.
unfoldable pub format_up_to : {F : Type 0} → FieldFaults F → ℕ → Members → Result ℕ F
format_up_to faults latest table = do
  d ← field faults (codes "format") table
  format ← integer_of faults d
  require_some (number_between 1 latest format) faults.wrong_kind

-- the values of an array
abbrev pub values_of : Items → List Data
values_of no_items = []
values_of (item d ds) = d ∷ values_of ds

-- the values of a list
abbrev pub as_list : Data → Option (List Data)
as_list d = option_map values_of (as_array d)

-- a list that has at most so many values
abbrev pub at_most : {F : Type 0} → ℕ → F → List Data → Result (List Data) F
at_most most too_many values = do
  _ ← require (nat_le (length values) most) too_many
  Ok values

-- a list of at most so many values
unfoldable pub list_of : {F : Type 0} → FieldFaults F → ℕ → Data → Result (List Data) F
list_of faults most d = do
  values ← require_some (as_list d) faults.wrong_kind
  at_most most faults.too_many values

-- each value by itself, up to the first fault
abbrev pub each_alone : {X Y F : Type 0} → (X → Result Y F) → List X → Result (List Y) F
each_alone step xs = each (λ _ x. step x) [] xs

-- a table
unfoldable pub table_of : {F : Type 0} → FieldFaults F → Data → Result Members F
table_of faults d = require_some (as_table d) faults.wrong_kind

-- the tables that the values of a list are
unfoldable pub tables_of : {F : Type 0} → FieldFaults F → List Data → Result (List Members) F
tables_of faults values = each_alone (table_of faults) values

-- the tables of a list, where there is one
abbrev pub tables_within : {F : Type 0} → FieldFaults F → ℕ → Option Data → Result (List Members) F
tables_within faults most None = Ok []
tables_within faults most (Some d) = do
  values ← list_of faults most d
  tables_of faults values

-- # tables of a field (profile)
-- The tables of a list of at most so many, or none where the table does not have the field.
unfoldable pub tables_field : {F : Type 0} → FieldFaults F → ℕ → List ℕ → Members
    → Result (List Members) F
tables_field faults most name table = tables_within faults most (get_member name table)

-- # lists of numbers and of texts (profile) [integers_of, texts_of]
-- Each value by itself, up to the first fault.
unfoldable pub integers_of : {F : Type 0} → FieldFaults F → ℕ → Data → Result (List ℤ) F
integers_of faults most d = do
  values ← list_of faults most d
  each_alone (integer_of faults) values

-- # list of numbers of any length (profile)
-- The same without a limit.
unfoldable pub all_integers_of : {F : Type 0} → FieldFaults F → Data → Result (List ℤ) F
all_integers_of faults d = do
  values ← require_some (as_list d) faults.wrong_kind
  each_alone (integer_of faults) values

-- the whole number that a value is, or 0 where it is none
abbrev pub whole_in : Data → ℤ
whole_in d = unwrap_or (as_integer d) (pos 0)

-- a text of at most 1,023 characters
unfoldable pub short_text_of : {F : Type 0} → FieldFaults F → Data → Result (List ℕ) F
short_text_of faults d = do
  text ← text_of faults d
  short_text faults text

-- a list of at most so many texts, each of at most 1,023 characters
unfoldable pub texts_of : {F : Type 0} → FieldFaults F → ℕ → Data → Result (List (List ℕ)) F
texts_of faults most d = do
  values ← list_of faults most d
  each_alone (short_text_of faults) values

-- # faults of a place (profile) [FieldFaults]
-- What each kind of fault of a field is at the table's place.
