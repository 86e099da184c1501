-- How the pieces of a line are written.
use Rattle.std.specs.Prelude.{ℕ, ◌/◌, ◌%◌, List, [], ◌∷◌, codes, drop, length, ◌++◌}
use Rattle.std.specs.Fmt.{decimal, signed_decimal}
use Rattle.std.specs.List.{concat}
use Rattle.metric_exposition.specs.Boundaries.{le_text}
use Rattle.metric_exposition.specs.LabelTexts.{braced, comma_after, escaped}
use Rattle.metric_exposition.specs.declared.piece.Piece.{Piece}
use Rattle.metric_exposition.specs.declared.piece.Piece.TheVariants.{Text, Escaped, Braced, Led, Signed}
use Rattle.metric_exposition.specs.declared.piece.Piece.TheVariants.{Count, Boundary, Seconds}

-- a number in nine digits
unfoldable pub nine_digits : ℕ → List ℕ
nine_digits n = drop (length (decimal n)) (codes "000000000") ++ decimal n

-- nanoseconds as seconds
unfoldable pub seconds : ℕ → List ℕ
seconds nanos = concat (
    decimal (nanos / 1000000000)
    ∷ codes "."
    ∷ nine_digits (nanos % 1000000000) ∷ [])

abbrev pub piece_text : Piece → List ℕ
piece_text (Text text) = text.now
piece_text (Escaped quotes text) = escaped quotes text.now
piece_text (Braced labels) = braced labels.now
piece_text (Led labels) = comma_after labels.now
piece_text (Signed number) = signed_decimal number
piece_text (Count number) = decimal number
piece_text (Boundary boundary) = le_text boundary
piece_text (Seconds nanos) = seconds nanos
