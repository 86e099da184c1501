-- The lines of a part as one text, and of a script as they stand in the input.
use Rattle.std.specs.Prelude.{ℕ, List, [], ◌∷◌}
use Rattle.std.specs.List.{join_by}

-- # text of a part (profile)
-- The contents with a line feed between each two lines.
abbrev pub joined : List (List ℕ) → List ℕ
joined lines = join_by (λ line. line) (10 ∷ []) lines

-- # script lines (profile)
-- The script's lines, with the number of the first of them in the whole input.
pub record ScriptLines : Type 0 where
  pub first_line : ℕ
  pub lines : List (List ℕ)
