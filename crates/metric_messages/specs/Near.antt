-- How far a word is from another, and which of some words is the nearest.
use Rattle.std.specs.Prelude.{ℕ, ◌+◌, ◌-◌, min, max, Bool, not, ◌&&◌, ◌||◌, nat_eq, nat_le, nat_lt}
use Rattle.std.specs.Prelude.{List, [], ◌∷◌, fold, length, reverse, if◌then◌else◌}
use Rattle.std.specs.List.{list_all}

-- with how many letters that are the same both begin
abbrev pub alike : List ℕ → List ℕ → ℕ
alike [] other = 0
alike (x ∷ xs) [] = 0
alike (x ∷ xs) (y ∷ ys) = if nat_eq x y then 1 + alike xs ys else 0

-- with how many letters that are the same both begin and end, of which none counts twice
abbrev pub shared : List ℕ → List ℕ → ℕ
shared text word =
    min (alike text word + alike (reverse text) (reverse word)) (min (length text) (length word))

-- how many letters of the longer one stand between
abbrev pub apart : List ℕ → List ℕ → ℕ
apart text word = max (length text) (length word) - shared text word

-- # near word (profile) [is_near, shared, apart]
-- Both begin and end alike, but for two letters at most in the middle, and share more than those.
abbrev pub is_near : List ℕ → List ℕ → Bool
is_near text word = nat_le (apart text word) 2 && nat_lt (apart text word) (shared text word)

-- a word that is as near or nearer than another
abbrev pub is_no_farther : List ℕ → List ℕ → List ℕ → Bool
is_no_farther text word other = not (is_near text other) || nat_le (apart text word) (apart text other)

-- # nearest word (profile) [is_nearest, is_no_farther]
-- It is near, and no word is nearer.
abbrev pub is_nearest : List ℕ → List (List ℕ) → List ℕ → Bool
is_nearest text words word = is_near text word && list_all (is_no_farther text word) words

-- ---- the same in one pass

-- how far the nearest is, with one word more; only near words count
abbrev pub nearer : List ℕ → ℕ → List ℕ → ℕ
nearer text least word = if is_near text word then min least (apart text word) else least

-- how far the nearest of the near words is; 2, the most for a near one, where none is near
abbrev pub least_apart : List ℕ → List (List ℕ) → ℕ
least_apart text words = fold (nearer text) 2 words

-- a near word that is no farther than so many letters
abbrev pub is_as_near : List ℕ → ℕ → List ℕ → Bool
is_as_near text least word = is_near text word && nat_le (apart text word) least
