-- Which batches a journal can have given.
use Rattle.std.specs.Prelude.{◌≡◌, ◌<◌, ℕ, Bool, true, ◌&&◌, ◌==◌, nat_le, List, [], ◌∷◌, ◌++◌}
use Rattle.std.specs.Prelude.{Some, length, take, filter, fold, slice_get, slice_range}
use Rattle.std.specs.Prelude.{if◌then◌else◌}
use Rattle.std.specs.List.{list_all}
use Rattle.metric_facts.specs.declared.facts.FactsFields.{FactsFields as Facts}
use Rattle.metric_facts.specs.declared.facts.NumberedStream.{NumberedStream}
use Rattle.metric_facts.specs.Facts.{in_bounds, is_allowed_set, is_delta, is_of_reader}
use Rattle.metric_history.specs.declared.batch.Batch.{Batch}
use Rattle.metric_history.specs.declared.entry.Entry.{Entry}
use Rattle.metric_history.specs.Points.{reported}
use Rattle.metric_history.specs.Windows.{fits_stream, window}

-- how many recordings the last of a reader's batches counted, 0 without one
abbrev pub mark_after : ℕ → List Batch → ℕ
mark_after reader batches =
    fold (λ mark (b : Batch). if b.reader == reader then b.mark else mark) 0 batches

-- the time of the last of a reader's batches, the start without one
abbrev pub time_after : ℕ → ℕ → List Batch → ℕ
time_after start reader batches =
    fold (λ time (b : Batch). if b.reader == reader then b.time else time) start batches

-- whether a recording keeps each of a reader's series in range, where the
-- reader's last batch had this mark
abbrev pub fits_reader : Facts → ℕ → ℕ → List Entry → Entry → Bool
fits_reader facts reader mark before entry =
    list_all (λ (s : NumberedStream). fits_stream s.stream
    (window (is_delta facts reader) mark before) entry) (filter (is_of_reader reader) facts.streams)

-- # may follow (SDK, collect) [may_follow, each_may_follow]
-- A recording of an allowed set with a value in range that keeps each of a reader's series in
-- range, after those before it and the reader's mark.
abbrev pub may_follow : Facts → ℕ → ℕ → List Entry → Entry → Bool
may_follow facts reader mark before entry =
    is_allowed_set facts entry.set
    && (in_bounds facts entry.value && fits_reader facts reader mark before entry)

-- whether each recording may follow those before it, of which these came before the first
abbrev pub each_may_follow : Facts → ℕ → ℕ → List Entry → List Entry → Bool
each_may_follow facts reader mark before [] = true
each_may_follow facts reader mark before (entry ∷ entries) =
    may_follow facts reader mark before entry
    && each_may_follow facts reader mark (before ++ entry ∷ []) entries

-- # right batch (SDK, collect) [is_headed, FollowsRightly, IsRight]
-- Of a reader of the instrument; it says where it begins, since when, and a time that does not go
-- back, as its reader's batch before it asks; what it adds may follow; its points are those of its
-- window in the journal cut at its mark.
abbrev pub is_headed : Facts → ℕ → ℕ → ℕ → ℕ → ℕ → Batch → Bool
is_headed facts instrument start count mark time b =
    (b.instrument == instrument)
    && ((b.from == (if is_delta facts b.reader then mark else 0))
    && ((b.start == (if is_delta facts b.reader then time else start))
    && (nat_le mark b.mark && (nat_le b.mark count && nat_le time b.time))))

-- A batch is right after one of its reader with this mark and this time: it says so where it
-- begins, each recording that it adds may follow those before it, and its points are those of its
-- window in the journal cut at its mark.
pub record FollowsRightly (facts : Facts) (instrument start : ℕ) (entries : List Entry)
    (mark time : ℕ) (b : Batch) : Type 0 where
  pub headed : is_headed facts instrument start (length entries) mark time b ≡ true
  pub possible : each_may_follow facts b.reader mark (take mark entries)
      (slice_range entries mark b.mark) ≡ true
  pub points : b.streams
      ≡ reported facts b.reader (window (is_delta facts b.reader) mark (take b.mark entries))

-- a batch of a reader of the instrument is right after these batches
pub record IsRight (facts : Facts) (instrument start : ℕ) (entries : List Entry)
    (before : List Batch) (b : Batch) : Type 0 where
  pub known : b.reader < length facts.delta
  pub follows : FollowsRightly facts instrument start entries (mark_after b.reader before)
      (time_after start b.reader before) b

-- # first wrong batch (profile) [IsRightAt, IsFirstWrong, AreAllRight]
-- The least place whose batch is not right after those before it.
abbrev pub IsRightAt : Facts → ℕ → ℕ → List Entry → List Batch → ℕ → Type 0
IsRightAt facts instrument start entries batches at =
    (b : Batch) → slice_get batches at ≡ Some b
    → IsRight facts instrument start entries (take at batches) b

-- the least place whose batch is not right
pub record IsFirstWrong (facts : Facts) (instrument start : ℕ) (entries : List Entry)
    (batches : List Batch) (at : ℕ) : Type 0 where
  pub within : at < length batches
  pub wrong : ¬ IsRightAt facts instrument start entries batches at
  pub earlier : (other : ℕ) → other < at → IsRightAt facts instrument start entries batches other

-- each batch is right
abbrev pub AreAllRight : Facts → ℕ → ℕ → List Entry → List Batch → Type 0
AreAllRight facts instrument start entries batches =
    (at : ℕ) → IsRightAt facts instrument start entries batches at
