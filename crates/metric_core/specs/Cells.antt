-- The state of one instrument, and for which recordings it stands.
use Rattle.std.specs.Prelude.{◌≡◌, ◌<◌, ◌≤◌, ◌+◌, ◌*◌, ◌^◌, ℕ, ℤ, pos, neg_ℤ, ◌≤ℤ◌, Bool, true}
use Rattle.std.specs.Prelude.{false, List, fold, length, max, replicate, slice_index}
use Rattle.std.specs.Prelude.{slice_index_or, sum}
use Rattle.metric_aggregate.specs.Value.{sum_of}
use Rattle.metric_history.specs.Journals.{Standing, no_marks}
use Rattle.metric_history.specs.declared.entry.Entry.{Entry}
use Rattle.metric_facts.specs.declared.facts.Facts.{Facts}
use Rattle.metric_history.specs.Answers.{Past, spent}
use Rattle.metric_history.specs.Points.{values}
use Rattle.metric_safety.specs.SafeFacts.{are_admitted, total}

-- what its run depends on, the book of its recordings, the start, how many recordings each
-- reader's last batch counted and the time of that batch, how many recordings each recorder made,
-- how many each was granted beside its budget and how many may still be, how many there are and
-- their sum, and whether it is closed
pub record CellValue (B : Type 0) : Type 0 where
  pub facts : Facts
  pub book : B
  pub start : ℕ
  pub marks : List ℕ
  pub times : List ℕ
  pub spent : List ℕ
  pub granted : List ℕ
  pub spare : ℕ
  pub count : ℕ
  pub total : ℤ
  pub is_closed : Bool

-- that of an instrument without recordings
abbrev pub new_cell : {B : Type 0} → Facts → ℕ → B → CellValue B
new_cell facts start book = record {
  facts = facts;
  book = book;
  start = start;
  marks = no_marks facts;
  times = replicate (length facts.delta) start;
  spent = replicate (length facts.budgets) 0;
  granted = replicate (length facts.budgets) 0;
  spare = facts.spare;
  count = 0;
  total = pos 0;
  is_closed = false;
}

-- # cell stands for (profile)
-- Its book stands for the accepted recordings with the cell's marks, and count, sum and spent
-- budgets are theirs.
pub record CellStands {B : Type 0} (stands : B → Standing) (c : CellValue B) (journal : List Entry)
    : Type 0 where
  pub book : stands c.book c.facts journal c.marks
  pub counted : c.count ≡ length journal
  pub summed : c.total ≡ sum_of (values journal)
  pub charged : (recorder : ℕ) → recorder < length c.facts.budgets
      → slice_index c.spent recorder ≡ spent journal recorder

-- # what a cell keeps (profile)
-- It stands for some recordings of allowed sets with values in range, no recorder has made more
-- than its budget and what it was granted, and all grants with what is left are the instrument's
-- spare.
pub record CellKept {B : Type 0} (stands : B → Standing) (c : CellValue B) : Type 0 where
  pub journal : List Entry
  pub known : CellStands stands c journal
  pub admitted : are_admitted c.facts journal ≡ true
  pub one_mark_each : length c.marks ≡ length c.facts.delta
  pub one_time_each : length c.times ≡ length c.facts.delta
  pub one_budget_each : length c.spent ≡ length c.facts.budgets
  pub one_grant_each : length c.granted ≡ length c.facts.budgets
  pub within : (recorder : ℕ) → slice_index c.spent recorder
      ≤ slice_index c.facts.budgets recorder + slice_index c.granted recorder
  pub shared : sum c.granted + c.spare ≡ c.facts.spare
  pub past : (reader : ℕ) → slice_index c.marks reader ≤ c.count
  pub counted : c.count ≡ sum c.spent
  pub budgeted : total c.facts < 2 ^ 64
  pub low : neg_ℤ (pos (2 ^ 63 * c.count)) ≤ℤ c.total
  pub high : c.total ≤ℤ pos (2 ^ 63 * c.count)

-- # latest time (profile)
-- The greatest time of a last batch of the cell's readers; its start before one.
abbrev pub latest : {B : Type 0} → CellValue B → ℕ
latest c = fold max c.start c.times

-- what a cell that stands for these recordings tells of the instrument
abbrev pub told_by : {B : Type 0} → CellValue B → List Entry → Past
told_by c journal = record {
  accepted = journal;
  mark = slice_index c.marks;
  previous = λ reader. slice_index_or c.times reader c.start;
  closed = c.is_closed;
  granted = slice_index c.granted;
  handed = sum c.granted;
}
