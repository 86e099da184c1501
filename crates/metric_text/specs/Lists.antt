-- How lists and labels are written.
use Rattle.std.specs.Prelude.{ℕ, List, [], ◌∷◌, ◌++◌, codes}
use Rattle.std.specs.Fmt.{decimal}
use Rattle.std.specs.List.{join_by}
use Rattle.metric_text.specs.Written.{quoted}

-- # list (profile) [joined, list_text, led_by]
-- Spellings with commas between, with brackets around them or with a text before the first.
abbrev pub joined : {X : Type 0} → (X → List ℕ) → List X → List ℕ
joined text xs = join_by text (44 ∷ []) xs

-- the same in brackets
abbrev pub list_text : {X : Type 0} → (X → List ℕ) → List X → List ℕ
list_text text xs = codes "[" ++ (joined text xs ++ codes "]")

-- what each is written as, with a text before the first and commas between
abbrev pub led_by : {X : Type 0} → List ℕ → (X → List ℕ) → List X → List ℕ
led_by before text [] = []
led_by before text (x ∷ xs) = before ++ (text x ++ led_by (44 ∷ []) text xs)

-- # label (profile) [labelled, numbered]
-- A text with a quoted text or a number after it.
unfoldable pub labelled : List ℕ → List ℕ → List ℕ
labelled label text = label ++ quoted text

-- a label with a number
unfoldable pub numbered : List ℕ → ℕ → List ℕ
numbered label number = label ++ decimal number
