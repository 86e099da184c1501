-- Which combinations of values are allowed.
use Rattle.std.specs.Prelude.{ℕ, Bool, true, List, Option, Some, None}
use Rattle.std.specs.List.{list_any}
use Rattle.std.specs.Str.{bytes_eq}

-- # among rows (profile)
-- Some row is the set key.
abbrev pub allows : List (List ℕ) → List ℕ → Bool
allows rows set = list_any (λ row. bytes_eq row set) rows

-- the same where there are rows; where there are none to ask, each set key is permitted
abbrev pub permits : Option (List (List ℕ)) → List ℕ → Bool
permits None set = true
permits (Some rows) set = allows rows set
