-- Batches that are handed on to an exporter in order.
use Rattle.std.specs.Prelude.{◌≡◌, ◌==◌, ℕ, Bool, true, false, not, List, [], ◌∷◌, Option, Some, None, Result, Err}
use Rattle.std.specs.Prelude.{length, slice_get, take}
use Rattle.std.specs.List.{list_any}
use Rattle.metric_history.specs.declared.batch.Batch.{Batch}
use Rattle.metric_history.specs.declared.batch.StreamPoints.{StreamPoints}
use Rattle.metric_export.specs.Exports.{is_taken}
use Rattle.metric_export.specs.declared.fault.ExportFault.{ExportFault}

-- whether a stream has a point
abbrev pub is_pointed : StreamPoints → Bool
is_pointed stream = not (length stream.points == 0)

-- whether a batch has one
abbrev pub has_points : Batch → Bool
has_points batch = list_any is_pointed batch.streams

-- what is said of a call of an exporter for a batch: the exporter before and
-- after it, the batch and the answer
abbrev pub Exporting : Type 0 → Type 1
Exporting E = E → E → Batch → Result (Unit {0}) ExportFault → Type 0

-- what is said of a call of it for no batch, as a flush or its shutdown
abbrev pub Answering : Type 0 → Type 1
Answering E = E → E → Result (Unit {0}) ExportFault → Type 0

-- The exporter was called once, for a batch, which went out or is kept.
pub record TakesOne {E : Type 0} (exports : Exporting E) (old new : E) (batch : Batch) : Type 0 where
  pub answer : Result (Unit {0}) ExportFault
  pub call : exports old new batch answer
  pub taken : is_taken answer ≡ true

-- The exporter was called once, for a batch, which it refused by this fault.
pub record RefusesIt {E : Type 0} (exports : Exporting E) (old new : E) (batch : Batch)
    (fault : ExportFault) : Type 0 where
  pub call : exports old new batch (Err fault)
  pub left : is_taken (Err fault) ≡ false

-- one of the two
abbrev pub TakesOrRefuses : {E : Type 0} → Exporting E → E → E → Batch → Option ExportFault
    → Type 0
TakesOrRefuses exports old new batch None = TakesOne exports old new batch
TakesOrRefuses exports old new batch (Some fault) = RefusesIt exports old new batch fault

-- it was called once for each batch, in order, and took it
abbrev pub TakesEach : {E : Type 0} → Exporting E → E → E → List Batch → Type 0
TakesEach exports old new [] = new ≡ old
TakesEach {E} exports old new (batch ∷ batches) =
    (mid : E) × (TakesOne exports old mid batch × TakesEach exports mid new batches)

-- It took so many of some batches, refused the next one by a fault, and was not called again.
pub record RefusesOne {E : Type 0} (exports : Exporting E) (old new : E) (batches : List Batch)
    (taken : ℕ) (fault : ExportFault) : Type 0 where
  pub mid : E
  pub took : TakesEach exports old mid (take taken batches)
  pub batch : Batch
  pub next : slice_get batches taken ≡ Some batch
  pub refused : RefusesIt exports mid new batch fault

-- # batches handed on (profile) [HandsOnInOrder, TakesEach, RefusesOne, has_points]
-- In order, each once, up to the first that the exporter neither takes nor keeps.
abbrev pub HandsOnInOrder : {E : Type 0} → Exporting E → E → E → List Batch → ℕ
    → Option ExportFault → Type 0
HandsOnInOrder exports old new batches taken None =
    TakesEach exports old new batches × (taken ≡ length batches)
HandsOnInOrder exports old new batches taken (Some fault) =
    RefusesOne exports old new batches taken fault
