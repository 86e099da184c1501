-- Words of a text.
use Rattle.std.specs.Prelude.{ℕ, Bool, not, ◌==◌, List, [], ◌∷◌, ◌++◌, filter, length}
use Rattle.std.specs.Char.{is_ascii_alphanumeric}
use Rattle.std.specs.List.{list_any, slice_split}
use Rattle.std.specs.Str.{bytes_eq}

-- what stands between words: no ASCII letter and no digit
abbrev pub is_between : ℕ → Bool
is_between c = not (is_ascii_alphanumeric c)

abbrev pub is_some : List ℕ → Bool
is_some word = not (length word == 0)

-- # words (Prometheus, naming by the Collector)
-- The longest runs of ASCII letters and digits of a text.
unfoldable pub words : List ℕ → List (List ℕ)
words text = filter is_some (slice_split is_between text)

-- a part more, with `_` before it unless it is the first
abbrev pub with_part : List ℕ → List ℕ → List ℕ
with_part [] part = part
with_part (c ∷ text) part = (c ∷ text) ++ 95 ∷ part

abbrev pub with_parts : List ℕ → List (List ℕ) → List ℕ
with_parts text [] = text
with_parts text (part ∷ parts) = with_parts (with_part text part) parts

-- parts with `_` between
unfoldable pub joined : List (List ℕ) → List ℕ
joined parts = with_parts [] parts

-- a part is one of these
abbrev pub is_among : List (List ℕ) → List ℕ → Bool
is_among parts part = list_any (bytes_eq part) parts

-- the parts other than this one
abbrev pub without : List ℕ → List (List ℕ) → List (List ℕ)
without part parts = filter (λ other. not (bytes_eq other part)) parts
