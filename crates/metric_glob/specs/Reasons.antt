-- Reasons for a match and for none: what is tested of them, and what they show.
use Rattle.std.specs.Prelude.{◌≡◌, ◌&&◌, ℕ, ◌+◌, ◌≤◌, Bool, false, List, [], ◌∷◌, length, drop}
use Rattle.std.specs.Prelude.{nat_le, slice_get, slice_index_or, Contains, All, Option, None, Some}
use Rattle.std.specs.Prelude.{IsSome, IfSome, if◌then◌else◌}
use Rattle.std.specs.Option.{option_map_or}
use Rattle.std.specs.List.Sorted.{IsStrictlyIncreasing}
use Rattle.metric_glob.specs.Matching.{takes_any, stands_for, is_empty, IsStarAt, StandsAt}
use Rattle.metric_glob.specs.Matching.{IsDivision, Matches}
use Rattle.metric_glob.specs.declared.reason.Reason.{Reason}
use Rattle.metric_glob.specs.declared.reason.Reason.TheVariants.{Takes, Rows}

-- the lengths of the pieces that `*` stands for, in order
abbrev pub any_lengths : List ℕ → List (List ℕ) → List ℕ
any_lengths [] pieces = []
any_lengths (c ∷ cs) [] = []
any_lengths (c ∷ cs) (piece ∷ pieces) =
    if takes_any c then length piece ∷ any_lengths cs pieces else any_lengths cs pieces

-- # takes (profile)
-- Numbers that spell a text: it divides into pieces, and the lengths of the pieces of `*` are these
-- numbers in order.
pub record Spells (pattern takes text : List ℕ) : Type 0 where
  pub pieces : List (List ℕ)
  pub division : IsDivision pattern pieces text
  pub given : any_lengths pattern pieces ≡ takes

-- the row at a place, which is empty past the last
abbrev pub row_at : List (List ℕ) → ℕ → List ℕ
row_at rows i = slice_index_or rows i []

-- The steps from a pattern place stay in the rows: a `*` puts the next place into its row and,
-- where a character is left, its own place into the next row; another that stands for this
-- character puts the next place into the next row.
pub record StepsStay (pattern : List ℕ) (found : Option ℕ) (row next : List ℕ) (place : ℕ)
    : Type 0 where
  pub empty : IsStarAt pattern place → Contains row (place + 1)
  pub longer : IsStarAt pattern place → IsSome found → Contains next place
  pub one : IfSome found (λ x. StandsAt pattern place x → Contains next (place + 1))

-- each step from a place of the row at a place of the text stays in the rows
abbrev pub RowStays : List ℕ → List ℕ → List (List ℕ) → ℕ → Type 0
RowStays pattern text rows at =
    All (StepsStay pattern (slice_get text at) (row_at rows at) (row_at rows (at + 1)))
    (row_at rows at)

-- the same of each row
abbrev pub AreClosed : List ℕ → List ℕ → List (List ℕ) → Type 0
AreClosed pattern text rows = (at : ℕ) → at ≤ length text → RowStays pattern text rows at

-- # rows (profile)
-- For each place of the text a strictly rising row of pattern places; the first has place 0, all
-- are closed under steps, the last is without the pattern's end.
pub record ShutsOut (pattern text : List ℕ) (rows : List (List ℕ)) : Type 0 where
  pub count : length rows ≡ length text + 1
  pub rising : All IsStrictlyIncreasing rows
  pub begins : Contains (row_at rows 0) 0
  pub closed : AreClosed pattern text rows
  pub ends : ¬ Contains (row_at rows (length text)) (length pattern)

-- # confirmed reason (profile)
-- Takes that spell the text, or rows that shut it out.
abbrev pub Confirms : List ℕ → List ℕ → Reason → Type 0
Confirms pattern text (Takes takes) = Spells pattern takes text
Confirms pattern text (Rows rows) = ShutsOut pattern text rows

-- # what a reason shows (profile)
-- Takes show a match, rows show that there is none.
abbrev pub Shows : List ℕ → List ℕ → Reason → Type 0
Shows pattern text (Takes takes) = Matches pattern text
Shows pattern text (Rows rows) = ¬ Matches pattern text

-- what the piece of a pattern character leaves of the takes and of the
-- text, or None where it has no piece
abbrev pub after_any : List ℕ → List ℕ → Option (List ℕ × List ℕ)
after_any [] text = None
after_any (count ∷ takes) text =
    if nat_le count (length text) then Some (takes, drop count text) else None

abbrev pub after_one : ℕ → List ℕ → List ℕ → Option (List ℕ × List ℕ)
after_one c takes [] = None
after_one c takes (x ∷ xs) = if stands_for c x then Some (takes, xs) else None

abbrev pub after_piece : ℕ → List ℕ → List ℕ → Option (List ℕ × List ℕ)
after_piece c takes text = if takes_any c then after_any takes text else after_one c takes text

-- whether these takes spell the text, as a test that computes
unfoldable pub is_spelled : List ℕ → List ℕ → List ℕ → Bool
is_spelled [] takes text = is_empty takes && is_empty text
is_spelled (c ∷ cs) takes text =
    option_map_or (λ left. is_spelled cs left.0 left.1) (after_piece c takes text) false
