-- What a book of tables keeps, and for which journals it stands.
use Rattle.std.specs.Prelude.{◌≡◌, ◌≤◌, ℕ, Bool, true, false, List, [], ◌∷◌, ◌++◌, length, filter}
use Rattle.std.specs.Prelude.{map, slice_index}
use Rattle.std.specs.List.{list_all}
use Rattle.metric_history.specs.declared.batch.StreamPoints.{StreamPoints}
use Rattle.metric_history.specs.declared.entry.Entry.{Entry}
use Rattle.metric_facts.specs.declared.facts.Facts.{Facts}
use Rattle.metric_facts.specs.declared.facts.NumberedStream.{NumberedStream}
use Rattle.metric_facts.specs.Facts.{is_delta, is_full_set, is_of_reader}
use Rattle.metric_facts.specs.Products.{AreAllByProduct}
use Rattle.metric_history.specs.Points.{stream_points, with_points}
use Rattle.metric_history.specs.Windows.{fits_stream, window}
use Rattle.metric_series.specs.Calls.{KeepsPlaces, Standing}
use Rattle.metric_marked.specs.StreamSeries.{stream_series}
use Rattle.metric_series.specs.declared.fault.SeriesFault.{SeriesFault}
use Rattle.metric_series.specs.declared.fault.SeriesFault.TheVariants.{SumRange}
use Rattle.metric_marked.specs.declared.stream_table.StreamTable.{StreamTable}

-- a table for each stream of the instrument, whether each reader is delta, each reader's mark,
-- and how many recordings there are
pub record MarkedValue : Type 0 where
  pub tables : List StreamTable
  pub delta : List Bool
  pub marks : List ℕ
  pub count : ℕ

-- for which streams and windows a table stands
abbrev pub TableStands : StreamTable → Standing
TableStands t = stream_series.stands t.table

-- the table is that of a stream, and stands for a window
pub record StandsFor (t : StreamTable) (s : NumberedStream) (window : List Entry) : Type 0 where
  pub number : t.number ≡ s.number
  pub reader : t.reader ≡ s.stream.reader
  pub stands : TableStands t s.stream window

-- each table stands for the window of its reader
abbrev pub StandAll : List StreamTable → List NumberedStream → (ℕ → List Entry) → Type 0
StandAll [] [] windows = Unit {0}
StandAll [] (s ∷ streams) windows = ⊥
StandAll (t ∷ tables) [] windows = ⊥
StandAll (t ∷ tables) (s ∷ streams) windows =
    StandsFor t s (windows s.stream.reader) × StandAll tables streams windows

-- each table has a place for a set
abbrev pub TakeAll : List StreamTable → List ℕ → Type 0
TakeAll [] set = Unit {0}
TakeAll (t ∷ tables) set = stream_series.takes t.table set × TakeAll tables set

-- each has room for all values
abbrev pub HaveRoom : List StreamTable → Type 0
HaveRoom [] = Unit {0}
HaveRoom (t ∷ tables) = stream_series.has_room t.table × HaveRoom tables

-- tables have the places and the room that others have
abbrev pub KeepPlaces : List StreamTable → List StreamTable → Type 0
KeepPlaces old new = KeepsPlaces TakeAll HaveRoom old new

-- the recordings that each reader's next collection covers
abbrev pub windows_of : Facts → List Entry → List ℕ → ℕ → List Entry
windows_of facts journal marks reader =
    window (is_delta facts reader) (slice_index marks reader) journal

-- a book stands for a journal with marks where its tables stand for their windows
pub record StandsMarked (b : MarkedValue) (facts : Facts) (journal : List Entry) (marks : List ℕ)
    : Type 0 where
  pub tables : StandAll b.tables facts.streams (windows_of facts journal marks)
  pub takes : (set : List ℕ) → is_full_set facts.keys set ≡ true → TakeAll b.tables set
  pub room : AreAllByProduct facts → HaveRoom b.tables
  pub delta : b.delta ≡ facts.delta
  pub mark : b.marks ≡ marks
  pub count : b.count ≡ length journal
  pub one_each : length marks ≡ length facts.delta
  pub low : (reader : ℕ) → slice_index marks reader ≤ length journal

-- the fault of one table beside others, where it is said whether those stay in range:
-- `SumRange` goes before `Memory`
abbrev pub weightier : SeriesFault → Bool → SeriesFault
weightier fault true = fault
weightier fault false = SumRange

-- whether each series into which a recording falls stays in range with it
abbrev pub JudgesAll : List StreamTable → Entry → Bool → Type 0
JudgesAll tables entry verdict =
    (streams : List NumberedStream) (windows : ℕ → List Entry) → StandAll tables streams windows
    → list_all
    (λ (s : NumberedStream). fits_stream s.stream (windows s.stream.reader) entry) streams ≡ verdict

-- each table takes a recording
abbrev pub TakesAll : List StreamTable → List StreamTable → Entry → Type 0
TakesAll old new entry =
    (streams : List NumberedStream) (windows : ℕ → List Entry) → StandAll old streams windows
    → StandAll new streams (λ reader. windows reader ++ entry ∷ [])

-- the points of a table are put last, where it is the reader's
abbrev pub AddsPoints : List StreamPoints → List StreamPoints → StreamTable → ℕ → Type 0
AddsPoints old new t reader =
    (s : NumberedStream) (windows : ℕ → List Entry) → StandsFor t s (windows s.stream.reader)
    → new ≡ with_points reader (windows reader) old s

-- those of each of the reader's tables
abbrev pub AddsAllPoints : List StreamPoints → List StreamPoints → List StreamTable → ℕ → Type 0
AddsAllPoints old new tables reader =
    (streams : List NumberedStream) (windows : ℕ → List Entry) → StandAll tables streams windows
    → new ≡ old ++ map (stream_points (windows reader)) (filter (is_of_reader reader) streams)

-- windows that are empty for a reader, and for the others what they were
pub record EmptyFor (old new : ℕ → List Entry) (reader : ℕ) : Type 0 where
  pub own : new reader ≡ []
  pub others : (other : ℕ) → (other ≡ reader → ⊥) → new other ≡ old other

-- a table stands for its window among the new ones
pub record EmptiesOne (old new : StreamTable) (reader : ℕ) : Type 0 where
  pub stands : (s : NumberedStream) (windows later : ℕ → List Entry) → EmptyFor windows later reader
      → StandsFor old s (windows s.stream.reader) → StandsFor new s (later s.stream.reader)
  pub places : KeepsPlaces stream_series.takes stream_series.has_room old.table new.table

-- and so does each table
pub record EmptiesReader (old new : List StreamTable) (reader : ℕ) : Type 0 where
  pub stands : (streams : List NumberedStream) (windows later : ℕ → List Entry)
      → EmptyFor windows later reader
      → StandAll old streams windows → StandAll new streams later
  pub places : KeepPlaces old new

-- so they do where the reader is delta, and else nothing changes
abbrev pub ClosesWindow : List StreamTable → List StreamTable → Bool → ℕ → Type 0
ClosesWindow old new true reader = EmptiesReader old new reader
ClosesWindow old new false reader = new ≡ old
