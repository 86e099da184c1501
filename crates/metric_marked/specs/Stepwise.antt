-- What is done to the first tables of an instrument, one after the other,
-- while the rest stay as they are.
use Rattle.std.specs.Prelude.{◌≡◌, ◌≢◌, true, List, [], ◌∷◌, Result, Err, OnOk, OnErr}
use Rattle.metric_history.specs.declared.entry.Entry.{Entry}
use Rattle.metric_series.specs.Calls.{JudgesRange, JudgesValue, KeepsPlaces, TakesRecording}
use Rattle.metric_marked.specs.StreamSeries.{stream_series}
use Rattle.metric_series.specs.declared.fault.SeriesFault.{SeriesFault}
use Rattle.metric_series.specs.declared.fault.SeriesFault.TheVariants.{Memory}
use Rattle.metric_series.specs.declared.place.Place.{Place}
use Rattle.metric_marked.specs.Marks.{TableStands}
use Rattle.metric_marked.specs.declared.stream_table.StreamTable.{StreamTable}

-- each of the first tables became another one as the relation says, one for each thing of a
-- list; the rest are what they were
abbrev pub EachAt : {P : Type 0} → (StreamTable → StreamTable → P → Type 0) → List StreamTable
    → List StreamTable → List P → Type 0
EachAt R old new [] = new ≡ old
EachAt R [] new (p ∷ ps) = ⊥
EachAt R (o ∷ old) [] (p ∷ ps) = ⊥
EachAt R (o ∷ old) (n ∷ new) (p ∷ ps) = R o n p × EachAt R old new ps

-- a table is that of the same stream, with its places
pub record IsSameStream (old new : StreamTable) : Type 0 where
  pub number : new.number ≡ old.number
  pub reader : new.reader ≡ old.reader
  pub places : KeepsPlaces stream_series.takes stream_series.has_room old.table new.table

-- the new table is the old one, made ready for a recording that falls to a place
pub record IsReadyFor (entry : Entry) (old new : StreamTable) (place : Place) : Type 0 where
  pub same : IsSameStream old new
  pub ready : stream_series.is_ready old.table new.table entry.set entry.value place

-- the new table is what the old one was before it was made ready
abbrev pub Restores : StreamTable → StreamTable → Place → Type 0
Restores old new place =
    (entry : Entry) (before : StreamTable) → IsReadyFor entry before old place → new ≡ before

-- a table was made ready for a recording
abbrev pub IsReady : Entry → StreamTable → Place → Type 0
IsReady entry t place = (before : StreamTable) × IsReadyFor entry before t place

-- each table was, for one of the places
abbrev pub AreReady : Entry → List StreamTable → List Place → Type 0
AreReady entry [] [] = Unit {0}
AreReady entry [] (place ∷ places) = ⊥
AreReady entry (t ∷ tables) [] = ⊥
AreReady entry (t ∷ tables) (place ∷ places) = IsReady entry t place × AreReady entry tables places

-- the new table stands for one recording more than the one that was made ready
abbrev pub Puts : Entry → StreamTable → StreamTable → Place → Type 0
Puts entry old new place =
    (before : StreamTable) → IsReadyFor entry before old place
    → IsSameStream before new
    × TakesRecording (TableStands before) (TableStands new) entry.set entry.value

-- each table stays in range with a recording
abbrev pub AreInRange : Entry → List StreamTable → Type 0
AreInRange entry [] = Unit {0}
AreInRange entry (t ∷ tables) =
    JudgesValue (TableStands t) entry.set entry.value true × AreInRange entry tables

-- What one call makes of a table: it takes a recording, or is what it was where the recording is
-- refused. `SumRange` comes exactly where the recording does not fit, and `Memory` never where
-- the table has room for all values.
pub record AddsTo (entry : Entry) (old new : StreamTable) (result : Result (Unit {0}) SeriesFault)
    : Type 0 where
  pub in_range : JudgesRange (TableStands old) entry.set entry.value result
  pub memory : stream_series.has_room old.table → result ≢ Err Memory
  pub same : IsSameStream old new
  pub stands : OnOk result
      (TakesRecording (TableStands old) (TableStands new) entry.set entry.value)
  pub err : OnErr result (new ≡ old)
