-- What the calls of a book do, for every journal for which it stands.
use Rattle.std.specs.Prelude.{◌≡◌, ◌≢◌, ◌<◌, ◌+◌, ◌^◌, ℕ, Bool, true, false, List, [], ◌∷◌, ◌++◌}
use Rattle.std.specs.Prelude.{Result, Ok, Err, length, replicate, slice_index}
use Rattle.std.specs.Prelude.{slice_set, if◌then◌else◌}
use Rattle.metric_combinations.specs.Combinations.{permits}
use Rattle.metric_history.specs.declared.book.Window.{Window}
use Rattle.metric_contents.specs.declared.refusal.Refusal.{Refusal}
use Rattle.metric_contents.specs.declared.refusal.Refusal.TheVariants.{SumRange, Memory}
use Rattle.metric_history.specs.declared.entry.Entry.{Entry}
use Rattle.metric_facts.specs.declared.facts.Facts.{Facts}
use Rattle.metric_facts.specs.Facts.{in_bounds, is_delta, is_full_set}
use Rattle.metric_history.specs.Points.{reported}
use Rattle.metric_history.specs.Windows.{fits_all, window}

-- # stands for a journal (profile)
-- For which facts, accepted recordings and marks a book answers.
abbrev pub Standing : Type 1
Standing = Facts → List Entry → List ℕ → Type 0

-- the marks of readers without a batch
abbrev pub no_marks : Facts → List ℕ
no_marks facts = replicate (length facts.delta) 0

-- a new book stands for no recordings
abbrev pub BeginsJournal : Standing → Facts → Type 0
BeginsJournal stands facts = stands facts [] (no_marks facts)

-- a recording may be the next: of a full set that is allowed, with a
-- value in range, and counted by a u64
pub record MayFollow (facts : Facts) (journal : List Entry) (entry : Entry) : Type 0 where
  pub full : is_full_set facts.keys entry.set ≡ true
  pub allowed : permits facts.allowed entry.set ≡ true
  pub value : in_bounds facts entry.value ≡ true
  pub counted : length journal + 1 < 2 ^ 64

-- the book stands for a journal which the recording may follow
abbrev pub MayTake : Standing → Entry → Type 0
MayTake stands entry =
    (facts : Facts) × (journal : List Entry) × (marks : List ℕ)
    × (stands facts journal marks × MayFollow facts journal entry)

-- # asks for memory (profile)
-- Out of memory is answered only on an instrument whose recordings allocate.
abbrev pub AsksForMemory : Standing → (Facts → Type 0) → Result (Unit {0}) Refusal → Type 0
AsksForMemory stands spares_memory result =
    (facts : Facts) (journal : List Entry) (marks : List ℕ) → stands facts journal marks
    → spares_memory facts → result ≢ Err Memory

-- the instrument has a reader of this number
abbrev pub HasReader : Standing → ℕ → Type 0
HasReader stands reader =
    (facts : Facts) × (journal : List Entry) × (marks : List ℕ)
    × (stands facts journal marks × (reader < length facts.delta))

-- what a recording may be answered, by whether it keeps each series in range
abbrev pub MayAnswer : Bool → Result (Unit {0}) Refusal → Type 0
MayAnswer true (Ok done) = Unit {0}
MayAnswer true (Err refusal) = refusal ≡ Memory
MayAnswer false (Ok done) = ⊥
MayAnswer false (Err refusal) = refusal ≡ SumRange

-- # judged recording (profile)
-- SumRange exactly where a series would leave its range, else accepted or Memory.
abbrev pub JudgesRecording : Standing → Entry → Result (Unit {0}) Refusal → Type 0
JudgesRecording stands entry result =
    (facts : Facts) (journal : List Entry) (marks : List ℕ) → stands facts journal marks
    → MayAnswer (fits_all facts (slice_index marks) journal entry) result

-- whether it keeps each series in range
abbrev pub JudgesEntry : Standing → Entry → Bool → Type 0
JudgesEntry stands entry fits =
    (facts : Facts) (journal : List Entry) (marks : List ℕ) → stands facts journal marks
    → fits_all facts (slice_index marks) journal entry ≡ fits

-- the new book stands for one recording more
abbrev pub TakesRecording : Standing → Standing → Entry → Type 0
TakesRecording old new entry =
    (facts : Facts) (journal : List Entry) (marks : List ℕ) → old facts journal marks
    → new facts (journal ++ entry ∷ []) marks

-- # window told (SDK, collect) [window_of, ReportsWindow]
-- Where it begins, the number of recordings, the points of the reader's streams.
abbrev pub window_of : Facts → List Entry → List ℕ → ℕ → Window
window_of facts journal marks reader = record {
  from = if is_delta facts reader then slice_index marks reader else 0;
  mark = length journal;
  streams =
      reported facts reader (window (is_delta facts reader) (slice_index marks reader) journal);
}

abbrev pub ReportsWindow : Standing → ℕ → Window → Type 0
ReportsWindow stands reader told =
    (facts : Facts) (journal : List Entry) (marks : List ℕ) → stands facts journal marks
    → told ≡ window_of facts journal marks reader

-- the reader's mark, and no other, is moved to the number of recordings
abbrev pub MovesMark : Standing → Standing → ℕ → Type 0
MovesMark old new reader =
    (facts : Facts) (journal : List Entry) (marks : List ℕ) → old facts journal marks
    → new facts journal (slice_set marks reader (length journal))

-- # kept entries (profile) [kept_of, KeepsAllOrNothing]
-- The journal where the book's type says that it keeps one (`KEEPS_ENTRIES`), else nothing.
abbrev pub kept_of : Bool → List Entry → List Entry
kept_of keeps journal = if keeps then journal else []

-- that is what a book has, for every journal for which it stands
abbrev pub KeepsAllOrNothing : Standing → Bool → List Entry → Type 0
KeepsAllOrNothing stands keeps entries =
    (facts : Facts) (journal : List Entry) (marks : List ℕ) → stands facts journal marks
    → entries ≡ kept_of keeps journal
