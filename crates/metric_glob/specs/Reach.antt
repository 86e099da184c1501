-- Which pattern places can be reached before a place of the text.
use Rattle.std.specs.Prelude.{◌==◌, ◌&&◌, ◌||◌, ℕ, zero, suc, ◌+◌, ◌-◌, nat_lt, Bool, false, List}
use Rattle.std.specs.Prelude.{[], ◌∷◌, ◌++◌, length, slice_index, Option, None, Some, if◌then◌else◌}
use Rattle.std.specs.List.{list_any}
use Rattle.metric_glob.specs.Matching.{star_at, stands_at}

-- whether the row has the place
abbrev pub has_place : List ℕ → ℕ → Bool
has_place row place = list_any (λ p. place == p) row

-- Whether a place is reached from the row before by the character between the rows: a `*` keeps its
-- place, and another that stands for the character goes on to the next.
abbrev pub is_entered_by : List ℕ → List ℕ → ℕ → ℕ → Bool
is_entered_by pattern before found place =
    (star_at pattern place && has_place before place)
    || (nat_lt 0 place && (stands_at pattern (place - 1) found && has_place before (place - 1)))

-- the same; the first row begins at the pattern's start
abbrev pub is_entered : List ℕ → List ℕ → Option ℕ → ℕ → Bool
is_entered pattern before None place = place == 0
is_entered pattern before (Some found) place = is_entered_by pattern before found place

-- Whether a place is reached: entered, or after a `*` that is reached, by an empty piece.
abbrev pub is_reached : List ℕ → (ℕ → Bool) → ℕ → Bool
is_reached pattern entered zero = entered 0
is_reached pattern entered (suc p) =
    entered (suc p) || (is_reached pattern entered p && star_at pattern p)

-- whether the place before is a `*` that is reached
abbrev pub is_after_star : List ℕ → (ℕ → Bool) → ℕ → Bool
is_after_star pattern entered zero = false
is_after_star pattern entered (suc p) = is_reached pattern entered p && star_at pattern p

-- the places below n that pass the test, rising
abbrev pub places_of : (ℕ → Bool) → ℕ → List ℕ
places_of test zero = []
places_of test (suc n) = if test n then places_of test n ++ n ∷ [] else places_of test n

-- the row after a row and a character, or the first row
unfoldable pub row_after : List ℕ → List ℕ → Option ℕ → List ℕ
row_after pattern before found =
    places_of (is_reached pattern (is_entered pattern before found)) (length pattern + 1)

-- the row at a place of the text
unfoldable pub reached_row : List ℕ → List ℕ → ℕ → List ℕ
reached_row pattern text zero = row_after pattern [] None
reached_row pattern text (suc at) =
    row_after pattern (reached_row pattern text at) (Some (slice_index text at))

-- the rows at the places of the text from 0 to n
unfoldable pub reached_rows : List ℕ → List ℕ → ℕ → List (List ℕ)
reached_rows pattern text zero = reached_row pattern text 0 ∷ []
reached_rows pattern text (suc n) =
    reached_rows pattern text n ++ reached_row pattern text (suc n) ∷ []
