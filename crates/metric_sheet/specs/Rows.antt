-- What a row gains as it is made.
use Rattle.std.specs.Prelude.{◌≡◌, ℕ, true, List, [], ◌∷◌, ◌++◌, Result, Ok, Err}
use Rattle.std.specs.String.{string_bytes}
use Rattle.std.specs.declared.alloc.AllocError.{AllocError}
use Rattle.metric_sheet.specs.declared.cell.Cell.{Cell}
use Rattle.metric_sheet.specs.declared.cell.Cell.TheVariants.{Text, Number, Numbers, Flag, Texts, Nothing}
use Rattle.metric_sheet.specs.declared.row.Row.{Row}

pub record Gained (cell : Cell) (old new : Row) : Type 0 where
  pub was_whole : old.is_whole ≡ true
  pub cells : new.cells.items ≡ old.cells.items ++ cell ∷ []

-- # row with one cell more (profile) [Gains, GainsOf, GainsText]
-- A row that is whole was whole before its last cell was put, and that cell stands behind the others.
abbrev pub Gains : Cell → Row → Row → Type 0
Gains cell old new = new.is_whole ≡ true → Gained cell old new

abbrev pub GainsOf : Result Cell AllocError → Row → Row → Type 0
GainsOf (Ok cell) old new = Gains cell old new
GainsOf (Err refused) old new = new.is_whole ≡ true → ⊥

-- the cell of a text
abbrev pub IsText : List ℕ → Cell → Type 0
IsText bytes (Text text) = string_bytes text ≡ bytes
IsText bytes (Number number) = ⊥
IsText bytes (Numbers numbers) = ⊥
IsText bytes (Flag flag) = ⊥
IsText bytes (Texts texts) = ⊥
IsText bytes Nothing = ⊥

pub record GainedText (bytes : List ℕ) (old new : Row) : Type 0 where
  pub cell : Cell
  pub text : IsText bytes cell
  pub gained : Gained cell old new

abbrev pub GainsText : List ℕ → Row → Row → Type 0
GainsText bytes old new = new.is_whole ≡ true → GainedText bytes old new
