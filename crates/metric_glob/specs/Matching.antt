-- When a text matches a pattern: a division into pieces, one for each pattern character.
use Rattle.std.specs.Prelude.{◌≡◌, ◌==◌, ◌||◌, ◌&&◌, ℕ, Bool, true, false, List, [], ◌∷◌, length}
use Rattle.std.specs.Prelude.{slice_index, nat_lt, not, ◌<◌, if◌then◌else◌, IsTrue, ⊤}
use Rattle.std.specs.Bool.{MatchBool}
use Rattle.std.specs.Char.{to_ascii_lowercase}
use Rattle.std.specs.List.{AllZip, concat}

-- the character that stands for any text, `*`
abbrev pub any_text : ℕ
any_text = 42

-- the character that stands for any one character, `?`
abbrev pub any_one : ℕ
any_one = 63

-- whether a pattern character stands for any text
abbrev pub takes_any : ℕ → Bool
takes_any c = c == any_text

-- whether a pattern character stands for this one character
abbrev pub stands_for : ℕ → ℕ → Bool
stands_for c x = (c == any_one) || (to_ascii_lowercase c == to_ascii_lowercase x)

-- the pattern has a `*` at this place
pub record IsStarAt (pattern : List ℕ) (place : ℕ) : Type 0 where
  pub within : place < length pattern
  pub any : takes_any (slice_index pattern place) ≡ true

-- the pattern has at this place a character that stands for one, and for this one
pub record StandsAt (pattern : List ℕ) (place x : ℕ) : Type 0 where
  pub within : place < length pattern
  pub one : takes_any (slice_index pattern place) ≡ false
  pub stands : stands_for (slice_index pattern place) x ≡ true

-- the same as tests that compute
abbrev pub star_at : List ℕ → ℕ → Bool
star_at pattern place = nat_lt place (length pattern) && takes_any (slice_index pattern place)

abbrev pub stands_at : List ℕ → ℕ → ℕ → Bool
stands_at pattern place x =
    nat_lt place (length pattern)
    && (not (takes_any (slice_index pattern place)) && stands_for (slice_index pattern place) x)

-- # piece (SDK, instrument selection criteria)
-- Any text for `*`; one character for `?`; for any other pattern character the same character
-- without ASCII case.
abbrev pub IsPiece : ℕ → List ℕ → Type 0
IsPiece c piece = MatchBool (takes_any c) ⊤ ((x : ℕ) × (piece ≡ x ∷ []) × IsTrue (stands_for c x))

-- the text is the pieces, one after another, and each pattern character stands for its piece
pub record IsDivision (pattern : List ℕ) (pieces : List (List ℕ)) (text : List ℕ) : Type 0 where
  pub fit : AllZip IsPiece pattern pieces
  pub spell : text ≡ concat pieces

-- # match (SDK, instrument selection criteria)
-- A text is a concatenation of pieces, one for each pattern character.
pub record Matches (pattern text : List ℕ) : Type 0 where
  pub pieces : List (List ℕ)
  pub division : IsDivision pattern pieces text

-- the test passes on the text, or on what is left of it after some of its characters
abbrev pub any_suffix : (List ℕ → Bool) → List ℕ → Bool
any_suffix test [] = test []
any_suffix test (x ∷ xs) = test (x ∷ xs) || any_suffix test xs

-- the pattern character stands for the first character, and the test passes on those after it
abbrev pub first_stands : ℕ → (List ℕ → Bool) → List ℕ → Bool
first_stands c test [] = false
first_stands c test (x ∷ xs) = stands_for c x && test xs

abbrev pub is_empty : List ℕ → Bool
is_empty [] = true
is_empty (x ∷ xs) = false

-- whether the text matches, as a test that computes
unfoldable pub is_match : List ℕ → List ℕ → Bool
is_match [] text = is_empty text
is_match (c ∷ cs) text =
    if takes_any c then any_suffix (is_match cs) text else first_stands c (is_match cs) text
