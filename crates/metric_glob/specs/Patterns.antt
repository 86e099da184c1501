-- Patterns: what a pattern is, and which fault a text has.
use Rattle.std.specs.Prelude.{◌≡◌, ℕ, ◌≤◌, List, length, Result, Ok, IsTrue, nat_le}
use Rattle.std.specs.List.{list_all}
use Rattle.metric_base.specs.Steps.{◌>>=◌, require, require_none}
use Rattle.metric_names.specs.Names.{first_other}
use Rattle.metric_names.specs.Units.{is_printable}
use Rattle.metric_glob.specs.declared.pattern.PatternFault.{PatternFault}
use Rattle.metric_glob.specs.declared.pattern.PatternFault.TheVariants.{Empty, BadCharacter}
use Rattle.metric_glob.specs.declared.pattern.PatternFault.TheVariants.{TooLong}

-- # pattern (profile)
-- A text of 1 to 255 printable ASCII characters.
abbrev pub IsPattern : List ℕ → Type 0
IsPattern text = (1 ≤ length text) × IsTrue (list_all is_printable text) × (length text ≤ 255)

-- # pattern of a text (profile)
-- The text itself where it is a pattern, else the first of Empty, BadCharacter, TooLong.
abbrev pub pattern_of : List ℕ → Result (List ℕ) PatternFault
pattern_of text = do
  _ ← require (nat_le 1 (length text)) Empty
  _ ← require_none (first_other is_printable text) BadCharacter
  _ ← require (nat_le (length text) 255) TooLong
  Ok text

-- what a test of a text has found: no fault exactly where it is a pattern, or the fault
abbrev pub CheckedPattern : List ℕ → Result (Unit {0}) PatternFault → Type 0
CheckedPattern text found = pattern_of text ≡ (found >>= λ _. Ok text)
