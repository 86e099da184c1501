-- What recordings in a row make of the instrument that they are made on.
use Rattle.std.specs.Prelude.{ℕ, ◌++◌, List, Result, Ok, Err, map, take}
use Rattle.metric_history.specs.Journals.{Standing}
use Rattle.metric_core.specs.Cells.{CellStands, CellValue}
use Rattle.metric_core.specs.CellAnswers.{entry_of}
use Rattle.metric_history.specs.declared.entry.Entry.{Entry}
use Rattle.metric_seat.specs.declared.fault.SetsFault.{SetsFault}
use Rattle.metric_seat.specs.declared.keys.Measurement.{Measurement}

-- the recording of a recorder
abbrev pub entry_by : ℕ → Measurement → Entry
entry_by recorder one = entry_of recorder one.set one.value

-- those of a list that were made: all, or those before the refused one
abbrev pub made_of : List Measurement → Result (Unit {0}) SetsFault → List Measurement
made_of all (Ok done) = all
made_of all (Err fault) = take fault.place all

-- # gains (profile) [GainsAll, made_of]
-- The cell stands for these recordings of a recorder more, in their order.
abbrev pub GainsAll : {B : Type 0} → (B → Standing) → CellValue B → CellValue B → ℕ
    → List Measurement → Type 0
GainsAll {B} stands old new recorder made =
    (journal : List Entry) → CellStands stands old journal
    → CellStands stands new (journal ++ map (entry_by recorder) made)
