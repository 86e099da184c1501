-- What a slot with a book of tables keeps of each table.
use Rattle.std.specs.Prelude.{◌≡◌, ℕ, ◌-◌, false, List, Some, IsTrue, if◌then◌else◌, length, map}
use Rattle.std.specs.Prelude.{slice_get, slice_index}
use Rattle.metric_aggregate.specs.Value.{sum_of}
use Rattle.metric_bounds.specs.Sums.{keeps_sum}
use Rattle.metric_core.specs.Cells.{CellValue}
use Rattle.metric_history.specs.declared.batch.Point.{Point}
use Rattle.metric_history.specs.declared.entry.Entry.{Entry}
use Rattle.metric_facts.specs.declared.facts.NumberedStream.{NumberedStream}
use Rattle.metric_facts.specs.Facts.{is_delta}
use Rattle.metric_history.specs.Points.{points}
use Rattle.metric_marked.specs.declared.stream_table.StreamTable.{StreamTable}
use Rattle.metric_marked.specs.Marks.{StandsFor}
use Rattle.metric_safety.specs.WindowBounds.{IsBounded, sum_in}

-- how many recordings a stream's next points cover: those since the last
-- batch of its reader (delta), or all
abbrev pub covered_count : {B : Type 0} → CellValue B → ℕ → ℕ
covered_count c reader =
    if is_delta c.facts reader then c.count - slice_index c.marks reader else c.count

-- A table has the numbers of so many recordings, in bounds by how many they are; where it has those
-- of all, its sums add up to the sum of all accepted values.
pub record IsTableBounded {B : Type 0} (c : CellValue B) (s : NumberedStream) (t : StreamTable)
    : Type 0 where
  pub window : List Entry
  pub counted : length window ≡ covered_count c s.stream.reader
  pub stands : StandsFor t s window
  pub bounded : IsBounded c.facts s.stream window
  pub summed : IsTrue (keeps_sum s.stream) → is_delta c.facts s.stream.reader ≡ false
      → sum_of (map (λ (p : Point). sum_in p.value) (points s.stream window)) ≡ c.total

-- # bounded tables (SDK, cardinality limits) [AreTablesBounded, IsTableBounded]
-- One for each stream; each stands for the recordings that its reader's next points cover, and is
-- bounded by how many they are; the sums of a cumulative one are the sum of all values.
pub record AreTablesBounded {B : Type 0} (c : CellValue B) (tables : List StreamTable)
    : Type 0 where
  pub one_each : length tables ≡ length c.facts.streams
  pub each : (k : ℕ) (s : NumberedStream) (t : StreamTable) → slice_get c.facts.streams k ≡ Some s
      → slice_get tables k ≡ Some t
      → IsTableBounded c s t
