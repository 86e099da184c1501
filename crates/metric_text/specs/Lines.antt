-- The lines of an input.
use Rattle.std.specs.Prelude.{ℕ, ◌==◌, Bool, false, ◌&&◌, if◌then◌else◌, List, [], ◌∷◌}
use Rattle.std.specs.List.{onto_first}

abbrev pub is_feed : ℕ → Bool
is_feed b = b == 10

-- whether a line feed stands first
abbrev pub begins_with_feed : List ℕ → Bool
begins_with_feed [] = false
begins_with_feed (b ∷ bytes) = is_feed b

-- # lines (profile)
-- A line feed ends a line, one carriage return before it is dropped, the last line feed may be
-- missing.
abbrev pub lines_of : List ℕ → List (List ℕ)
lines_of [] = []
lines_of (b ∷ bytes) =
    if is_feed b then [] ∷ lines_of bytes else (
    if (b == 13) && begins_with_feed bytes then lines_of bytes else
    onto_first b (lines_of bytes))

-- a line without the carriage return at its end
abbrev pub without_return : List ℕ → List ℕ
without_return [] = []
without_return (b ∷ []) = if b == 13 then [] else b ∷ []
without_return (b ∷ c ∷ line) = b ∷ without_return (c ∷ line)

-- the first line, and what follows it
abbrev pub line_in : List ℕ → List ℕ × List ℕ
line_in [] = ([], [])
line_in (b ∷ bytes) =
    if is_feed b then ([], bytes) else (
    if (b == 13) && begins_with_feed bytes then line_in bytes else
    (b ∷ (line_in bytes).0, (line_in bytes).1))
