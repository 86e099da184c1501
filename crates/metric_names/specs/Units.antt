-- Units: what a unit is, and which fault a text has.
use Rattle.std.specs.Prelude.{◌≡◌, ℕ, ◌≤◌, Bool, List, length, Result, Ok, IsTrue, nat_le}
use Rattle.std.specs.Int.{is_in_range}
use Rattle.std.specs.List.{list_all}
use Rattle.metric_base.specs.Steps.{◌>>=◌, require, require_none}
use Rattle.metric_names.specs.Names.{first_other}
use Rattle.metric_names.specs.declared.unit.UnitFault.{UnitFault}
use Rattle.metric_names.specs.declared.unit.UnitFault.TheVariants.{BadCharacter, TooLong}

-- a printable ASCII character, from space to tilde
abbrev pub is_printable : ℕ → Bool
is_printable c = is_in_range 32 126 c

-- # unit (API, instrument unit; "printable" is profile)
-- A text of at most 63 printable ASCII characters, the empty text too.
abbrev pub IsUnit : List ℕ → Type 0
IsUnit text = IsTrue (list_all is_printable text) × (length text ≤ 63)

-- # unit of a text (API, instrument unit; the order is profile)
-- The text itself where it is a unit, else the first of BadCharacter, TooLong.
abbrev pub unit_of : List ℕ → Result (List ℕ) UnitFault
unit_of text = do
  _ ← require_none (first_other is_printable text) BadCharacter
  _ ← require (nat_le (length text) 63) TooLong
  Ok text

-- what a test of a text has found: no fault exactly where it is a unit, or the fault
abbrev pub CheckedUnit : List ℕ → Result (Unit {0}) UnitFault → Type 0
CheckedUnit text found = unit_of text ≡ (found >>= λ _. Ok text)
