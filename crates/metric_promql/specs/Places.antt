-- Where the bytes of an expression stand in its file.
use Rattle.std.specs.Prelude.{ℕ, ◌-◌, ◌<◌, ◌≤◌, List, length, slice_index_or}
use Rattle.std.specs.List.Sorted.{IsNonDecreasingBy}
use Rattle.metric_promql.specs.declared.expression.Piece.{Piece}

-- no piece begins before an earlier one
abbrev pub AreRising : List Piece → Type 0
AreRising pieces = IsNonDecreasingBy (λ (piece : Piece). piece.start) pieces

-- neither does one behind so many bytes
abbrev pub AreUpTo : List Piece → ℕ → Type 0
AreUpTo pieces count =
    AreRising pieces
    × ((d : Piece) → 0 < length pieces
    → (slice_index_or pieces (length pieces - 1) d).start ≤ count)

-- a byte is of a piece: the last that begins at it or before
abbrev pub IsPieceAt : List Piece → ℕ → ℕ → Type 0
IsPieceAt pieces at k =
    (k < length pieces)
    × ((d : Piece) → (slice_index_or pieces k d).start ≤ at)
    × ((j : ℕ) (d : Piece) → k < j → j < length pieces → at < (slice_index_or pieces j d).start)
