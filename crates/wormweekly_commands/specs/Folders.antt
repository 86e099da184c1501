-- What a folder holds, and what is made in it.
use Rattle.std.specs.Prelude.{◌≡◌, ◌++◌, ℕ, List, [], ◌∷◌, Option, Some, None}

-- A file that was made.
pub record MadeFile : Type 0 where
  pub path : List ℕ
  pub text : List ℕ

-- One more file was made, where the folder knows which were.
abbrev pub Makes : Option (List MadeFile) → Option (List MadeFile) → List ℕ → List ℕ → Type 0
Makes None new path text = Unit {0}
Makes (Some old) new path text = new ≡ Some (old ++ record { path = path; text = text } ∷ [])

-- # what a folder holds, whether two paths lead to one file, and what is made in it (profile)
-- [Makes]
-- What a folder holds, whether two paths lead to one file, and what is made in it.
