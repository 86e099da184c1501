-- Instrument names: what a name is, when two are the same, and which fault a text has.
use Rattle.std.specs.Prelude.{◌≡◌, ℕ, ◌≤◌, Bool, ◌||◌, ◌==◌, List, [], ◌∷◌, length, map, Option}
use Rattle.std.specs.Prelude.{Result, Ok, IsTrue, nat_le, slice_get}
use Rattle.std.specs.Ordering.{nat_cmp}
use Rattle.std.specs.declared.cmp.Ordering.{Ordering}
use Rattle.std.specs.Prelude.{not}
use Rattle.std.specs.Char.{is_ascii_alphabetic, is_ascii_alphanumeric, to_ascii_lowercase}
use Rattle.std.specs.Cmp.Lexicographic.{slice_cmp}
use Rattle.std.specs.List.{list_all, position_from}
use Rattle.metric_base.specs.Steps.{◌>>=◌, require, require_some, require_none}
use Rattle.metric_names.specs.declared.name.NameFault.{NameFault}
use Rattle.metric_names.specs.declared.name.NameFault.TheVariants.{Empty, FirstLetter, BadCharacter}
use Rattle.metric_names.specs.declared.name.NameFault.TheVariants.{TooLong}

-- # name character (API, instrument name syntax)
-- An ASCII letter or digit, `_`, `.`, `-` or `/`.
abbrev pub is_name_character : ℕ → Bool
is_name_character c = is_ascii_alphanumeric c || (c == 95 || (c == 46 || (c == 45 || c == 47)))

-- # name (API, instrument name syntax)
-- An ASCII letter, and then at most 254 name characters.
abbrev pub IsName : List ℕ → Type 0
IsName [] = ⊥
IsName (first ∷ rest) =
    IsTrue (is_ascii_alphabetic first) × IsTrue (list_all is_name_character rest)
    × (length rest ≤ 254)

-- # first other character (profile)
-- The place of the first character that does not pass a test, counted from 0.
abbrev pub first_other : (ℕ → Bool) → List ℕ → Option ℕ
first_other passes text = position_from (λ c. not (passes c)) 0 text

-- # name of a text (API, instrument name syntax; the order is profile)
-- The text itself where it is a name, else the first of Empty, FirstLetter, BadCharacter, TooLong.
abbrev pub name_of : List ℕ → Result (List ℕ) NameFault
name_of text = do
  first ← require_some (slice_get text 0) Empty
  _ ← require (is_ascii_alphabetic first) FirstLetter
  _ ← require_none (first_other is_name_character text) BadCharacter
  _ ← require (nat_le (length text) 255) TooLong
  Ok text

-- # folded (API, instrument name syntax)
-- A text with its ASCII capitals made small.
abbrev pub folded : List ℕ → List ℕ
folded text = map to_ascii_lowercase text

-- # same name (API, instrument name syntax)
-- Two names whose folded texts are equal.
abbrev pub IsSameName : List ℕ → List ℕ → Type 0
IsSameName name other = folded name ≡ folded other

-- # order of names (profile)
-- The order of folded texts by bytes.
abbrev pub fold_order : List ℕ → List ℕ → Ordering
fold_order name other = slice_cmp nat_cmp (folded name) (folded other)

-- what a test of a text has found: no fault exactly where it is a name, or the fault
abbrev pub CheckedName : List ℕ → Result (Unit {0}) NameFault → Type 0
CheckedName text found = name_of text ≡ (found >>= λ _. Ok text)
