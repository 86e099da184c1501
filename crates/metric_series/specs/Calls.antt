-- What the calls of a table say of each stream and each window of
-- recordings for which the table stands.
use Rattle.std.specs.Prelude.{◌≡◌, ℕ, ℤ, Bool, true, false, List, [], ◌∷◌, ◌++◌, Option, Some, None}
use Rattle.std.specs.Prelude.{Result, Ok, Err}
use Rattle.metric_aggregate.specs.Aggregation.{Aggregation}
use Rattle.metric_aggregate.specs.Value.{value_of}
use Rattle.metric_contents.specs.declared.refusal.Refusal.{Refusal}
use Rattle.metric_contents.specs.declared.refusal.Refusal.TheVariants as refusals
use Rattle.metric_history.specs.declared.batch.Point.{Point}
use Rattle.metric_history.specs.declared.entry.Entry.{Entry}
use Rattle.metric_history.specs.Points.{point, points}
use Rattle.metric_history.specs.Series.{series}
use Rattle.metric_history.specs.Windows.{fits_stream}
use Rattle.metric_series.specs.declared.fault.SeriesFault.{SeriesFault}
use Rattle.metric_series.specs.declared.fault.SeriesFault.TheVariants.{SumRange, Memory}
use Rattle.metric_views.specs.declared.stream.Stream.{Stream}

-- a recording by some recorder
abbrev pub entry_of : ℕ → List ℕ → ℤ → Entry
entry_of recorder set value = record { recorder = recorder; set = set; value = value }

-- what an event is refused for a fault of a table
abbrev pub refusal_of : SeriesFault → Refusal
refusal_of SumRange = refusals.SumRange
refusal_of Memory = refusals.Memory

-- whether an answer lets a value in, as far as ranges go
abbrev pub is_in_range : {X : Type 0} → Result X SeriesFault → Bool
is_in_range (Ok done) = true
is_in_range (Err SumRange) = false
is_in_range (Err Memory) = true

-- for which streams and windows a table stands
abbrev pub Standing : Type 1
Standing = Stream → List Entry → Type 0

-- whether the series into which a value falls stays in range with it
abbrev pub JudgesValue : Standing → List ℕ → ℤ → Bool → Type 0
JudgesValue stands set value verdict =
    (s : Stream) (window : List Entry) (recorder : ℕ) → stands s window
    → fits_stream s window (entry_of recorder set value) ≡ verdict

-- the answer is `SumRange` exactly where it would leave its range
abbrev pub JudgesRange : {X : Type 0} → Standing → List ℕ → ℤ → Result X SeriesFault → Type 0
JudgesRange stands set value result = JudgesValue stands set value (is_in_range result)

-- the verdict on a value whose series has this key
abbrev pub JudgesSeries : Standing → List ℕ → ℤ → Bool → Type 0
JudgesSeries stands key value verdict =
    (s : Stream) (window : List Entry) (entry : Entry) → stands s window → key ≡ series s.kept entry
    → value ≡ entry.value
    → fits_stream s window entry ≡ verdict

-- # takes, judges, reports (SDK, cardinality limits, collect) [TakesRecording, JudgesRange,
-- ReportsPoints]
-- What an `add` and a collection of any table answer, for every list of recordings for which it
-- stands.
abbrev pub TakesRecording : Standing → Standing → List ℕ → ℤ → Type 0
TakesRecording old new set value =
    (s : Stream) (window : List Entry) (recorder : ℕ) → old s window
    → new s (window ++ entry_of recorder set value ∷ [])

-- the new table stands for no recordings
abbrev pub ForgetsAll : Standing → Standing → Type 0
ForgetsAll old new = (s : Stream) (window : List Entry) → old s window → new s []

-- # places kept (profile)
-- A table has places for the sets that it had places for, and room for all values where it had it.
pub record KeepsPlaces {T : Type 0} (takes : T → List ℕ → Type 0) (has_room : T → Type 0)
    (old new : T) : Type 0 where
  pub sets : (set : List ℕ) → takes old set → takes new set
  pub room : has_room old → has_room new

-- the point of a series or of the overflow series, for the values of its
-- recordings; none without a value
abbrev pub point_of : Aggregation → Option (List ℕ) → List ℤ → Option Point
point_of kind place [] = None
point_of kind place (value ∷ values) =
    Some (record { set = place; value = value_of kind (value ∷ values) })

-- the points are those of the window
abbrev pub ReportsPoints : Standing → List Point → Type 0
ReportsPoints stands reported =
    (s : Stream) (window : List Entry) → stands s window → reported ≡ points s window

-- the point is that of a series of the window
abbrev pub ReportsPoint : Standing → List ℕ → Option Point → Type 0
ReportsPoint stands key reported =
    (s : Stream) (window : List Entry) → stands s window
    → reported ≡ Some (point s window (Some key))
