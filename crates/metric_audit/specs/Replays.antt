-- How the journal of one reader is read again.
use Rattle.std.specs.Prelude.{◌≡◌, ◌<◌, ◌≤◌, ◌+◌, ◌^◌, ℕ, Bool, true, ◌&&◌, ◌==◌, List, [], ◌∷◌}
use Rattle.std.specs.Prelude.{◌++◌, Some, MatchBool, length, take, filter, slice_get, slice_index}
use Rattle.std.specs.Prelude.{if◌then◌else◌, ◌↔◌, IsTrue}
use Rattle.std.specs.List.{list_all}
use Rattle.metric_audit.specs.Batches.{FollowsRightly, IsRight, IsRightAt}
use Rattle.metric_history.specs.Journals.{Standing, window_of}
use Rattle.metric_facts.specs.declared.facts.FactsFields.{FactsFields as Facts}
use Rattle.metric_facts.specs.declared.facts.NumberedStream.{NumberedStream}
use Rattle.metric_facts.specs.Facts.{in_bounds, is_allowed_set, is_of_reader}
use Rattle.metric_history.specs.declared.batch.Batch.{Batch}
use Rattle.metric_history.specs.declared.batch.StreamPoints.{StreamPoints}
use Rattle.metric_history.specs.declared.entry.Entry.{Entry}
use Rattle.metric_history.specs.Windows.{fits_all}

-- the facts with the streams of one reader alone
abbrev pub facts_of_reader : Facts → ℕ → Facts
facts_of_reader facts reader = record facts { streams = filter (is_of_reader reader) facts.streams }

-- the streams with one more, where it is the reader's
abbrev pub with_stream_of : ℕ → List NumberedStream → NumberedStream → List NumberedStream
with_stream_of reader streams s = if is_of_reader reader s then streams ++ s ∷ [] else streams

-- whether all streams are the reader's
abbrev pub are_of_reader : Facts → ℕ → Bool
are_of_reader facts reader = list_all (is_of_reader reader) facts.streams

-- whether a book in which each reader has its mark takes a recording after a journal
abbrev pub may_take : Facts → List ℕ → List Entry → Entry → Bool
may_take facts marks journal entry =
    is_allowed_set facts entry.set
    && (in_bounds facts entry.value && fits_all facts (slice_index marks) journal entry)

-- whether it takes each recording after those before it
abbrev pub may_take_each : Facts → List ℕ → List Entry → List Entry → Bool
may_take_each facts marks journal [] = true
may_take_each facts marks journal (entry ∷ entries) =
    may_take facts marks journal entry && may_take_each facts marks (journal ++ entry ∷ []) entries

-- a book stands for a journal of these facts that as many recordings more can follow
abbrev pub HasRoomFor : Standing → Facts → ℕ → Type 0
HasRoomFor stands facts count =
    (journal : List Entry) × (marks : List ℕ)
    × (stands facts journal marks × (length journal + count < 2 ^ 64))

-- the verdict on recordings: they may follow and were taken, or one of them may not
abbrev pub TakesWhereIt : Standing → Standing → Facts → List Entry → Bool → Type 0
TakesWhereIt old new facts entries taken =
    (journal : List Entry) (marks : List ℕ) → old facts journal marks
    → (taken ≡ may_take_each facts marks journal entries)
    × (taken ≡ true → new facts (journal ++ entries) marks)

-- a book stands for the first recordings of a list, as many as the reader's last batch counted
pub record IsReplayed (stands : Standing) (facts : Facts) (reader : ℕ) (entries : List Entry)
    (mark : ℕ) : Type 0 where
  pub marks : List ℕ
  pub long : reader < length marks
  pub own : slice_index marks reader ≡ mark
  pub low : mark ≤ length entries
  pub known : stands facts (take mark entries) marks

-- the verdict on a batch: right, and the book stands for as many recordings as it counts; or wrong
abbrev pub JudgesBatch : Standing → Facts → ℕ → ℕ → List Entry → ℕ → ℕ → Batch → Bool → Type 0
JudgesBatch new facts instrument start entries mark time b right =
    MatchBool right (FollowsRightly facts instrument start entries mark time b
    × IsReplayed new facts b.reader entries b.mark)
    (¬ FollowsRightly facts instrument start entries mark time b)

-- the verdict on a batch among those of a reader, whose last one had this mark and this time;
-- and the mark and the time after it
abbrev pub GoesOn : Standing → Facts → ℕ → ℕ → List Entry → ℕ → ℕ → ℕ → Batch → Bool
    → ℕ → ℕ → Type 0
GoesOn new facts instrument start entries reader mark time b right next_mark next_time =
    MatchBool right
    ((b.reader ≡ reader → FollowsRightly facts instrument start entries mark time b)
    × IsReplayed new facts reader entries next_mark
    × (next_mark ≡ (if b.reader == reader then b.mark else mark))
    × (next_time ≡ (if b.reader == reader then b.time else time)))
    ((b.reader ≡ reader) × (¬ FollowsRightly facts instrument start entries mark time b))

-- the batch at a place is the reader's, and not right
pub record IsWrongOf (facts : Facts) (instrument start : ℕ) (entries : List Entry)
    (batches : List Batch) (reader at : ℕ) : Type 0 where
  pub batch : Batch
  pub here : slice_get batches at ≡ Some batch
  pub own : batch.reader ≡ reader
  pub wrong : ¬ IsRight facts instrument start entries (take at batches) batch

-- the first place of a reader's batch that is not right, or the end
pub record IsFirstWrongOf (facts : Facts) (instrument start : ℕ) (entries : List Entry)
    (batches : List Batch) (reader at : ℕ) : Type 0 where
  pub within : at ≤ length batches
  pub wrong : at < length batches → IsWrongOf facts instrument start entries batches reader at
  pub earlier : (other : ℕ) (b : Batch) → other < at → slice_get batches other ≡ Some b
      → b.reader ≡ reader
      → IsRight facts instrument start entries (take other batches) b

-- whether points are what the reader is told of each journal for which the book stands
abbrev pub ReportsPoints : Standing → ℕ → List StreamPoints → Bool → Type 0
ReportsPoints stands reader streams same =
    (facts : Facts) (journal : List Entry) (marks : List ℕ) → stands facts journal marks
    → IsTrue same ↔ (streams ≡ (window_of facts journal marks reader).streams)

-- the first place of a batch whose reader is none of so many, or the end
pub record IsFirstStrange (batches : List Batch) (readers at : ℕ) : Type 0 where
  pub within : at ≤ length batches
  pub strange : (b : Batch) → slice_get batches at ≡ Some b → readers ≤ b.reader
  pub earlier : (other : ℕ) (b : Batch) → other < at → slice_get batches other ≡ Some b
      → b.reader < readers

abbrev pub is_batch_of : ℕ → Batch → Bool
is_batch_of reader b = b.reader == reader

-- the first place of a batch that is not right, or the end
pub record FindsWrong (facts : Facts) (instrument start : ℕ) (entries : List Entry)
    (batches : List Batch) (at : ℕ) : Type 0 where
  pub within : at ≤ length batches
  pub wrong : at < length batches → ¬ IsRightAt facts instrument start entries batches at
  pub earlier : (other : ℕ) → other < at → IsRightAt facts instrument start entries batches other
