-- The lanes of an instrument: several states that have its recordings together.
use Rattle.std.specs.Prelude.{ℕ, ℤ, pos, ◌+ℤ◌, List, [], ◌∷◌, ◌++◌, slice_index, sum_by}
use Rattle.metric_core.specs.Cells.{CellValue}
use Rattle.metric_history.specs.declared.entry.Entry.{Entry}
use Rattle.metric_seat.specs.Settlements.{Numbers}

-- # counted by lanes (profile) [numbers_over, count_over, spent_over, total_over]
-- Each recorder's recordings, their number and their sum are those of all lanes, added up.
abbrev pub count_over : {B : Type 0} → List (CellValue B) → ℕ
count_over {B} cells = sum_by (λ (c : CellValue B). c.count) cells

-- how many recordings of a recorder they have
abbrev pub spent_over : {B : Type 0} → List (CellValue B) → ℕ → ℕ
spent_over {B} cells recorder = sum_by (λ (c : CellValue B). slice_index c.spent recorder) cells

-- the sum of their values
abbrev pub total_over : {B : Type 0} → List (CellValue B) → ℤ
total_over [] = pos 0
total_over (c ∷ cells) = c.total +ℤ total_over cells

-- these of an instrument with this least value
abbrev pub numbers_over : {B : Type 0} → ℤ → List (CellValue B) → Numbers
numbers_over lo cells = record {
  lo = lo;
  spent = spent_over cells;
  count = count_over cells;
  total = total_over cells;
}

-- # kept by lanes (profile)
-- The entries that their books keep, one lane after the other.
abbrev pub kept_by : {B : Type 0} → (B → List Entry) → List (CellValue B) → List Entry
kept_by kept [] = []
kept_by kept (c ∷ cells) = kept c.book ++ kept_by kept cells
