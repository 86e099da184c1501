-- How the pieces of a line are written.
use Rattle.std.specs.Prelude.{ℕ, ℤ, List, ◌++◌}
use Rattle.std.specs.Fmt.{decimal, signed_decimal}
use Rattle.metric_text.specs.Lists.{labelled, list_text, numbered}
use Rattle.metric_lines.specs.Keys.{names_text, series_text}
use Rattle.metric_lines.specs.declared.piece.Piece.{Piece}
use Rattle.metric_lines.specs.declared.piece.Piece.TheVariants.{Text, Quoted, Number, Wide, Signed}
use Rattle.metric_lines.specs.declared.piece.Piece.TheVariants.{Counts, Bounds, Series, Names}

-- a label with a number that may be negative
unfoldable pub signed : List ℕ → ℤ → List ℕ
signed label number = label ++ signed_decimal number

-- a label with values in brackets
unfoldable pub listed : {X : Type 0} → (X → List ℕ) → List ℕ → List X → List ℕ
listed text label values = label ++ list_text text values

-- # piece (profile)
-- A label with a text, a quoted text or a number; a line is a list of pieces.
abbrev pub piece_text : Piece → List ℕ
piece_text (Text text) = text.now
piece_text (Quoted label text) = labelled label.now text.now
piece_text (Number label number) = numbered label.now number
piece_text (Wide label number) = numbered label.now number
piece_text (Signed label number) = signed label.now number
piece_text (Counts label numbers) = listed decimal label.now numbers.now
piece_text (Bounds label numbers) = listed signed_decimal label.now numbers.now
piece_text (Series keys kept set) = series_text keys.now kept.now set.now
piece_text (Names keys kept) = names_text keys.now kept.now
