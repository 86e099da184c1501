-- Boundaries that rise strictly.
use Rattle.std.specs.Prelude.{ℤ, Bool, true, ◌&&◌, List, [], ◌∷◌, int_lt}

-- whether a number is below the first of a list, and the list rises
abbrev pub rises_after : ℤ → List ℤ → Bool
rises_after before [] = true
rises_after before (b ∷ bs) = int_lt before b && rises_after b bs

-- # rising boundaries (SDK, explicit bucket histogram aggregation)
-- Each boundary is below the next.
abbrev pub is_rising : List ℤ → Bool
is_rising [] = true
is_rising (b ∷ bs) = rises_after b bs
