-- The calls of an exporter, each for one batch, and how they are counted.
use Rattle.std.specs.Prelude.{◌≡◌, ◌==◌, ◌||◌, ℕ, Bool, true, false, List, [], ◌∷◌}
use Rattle.std.specs.Prelude.{Result, Ok, Err, is_err, length}
use Rattle.metric_io.specs.Counts.{next_count}
use Rattle.metric_history.specs.declared.batch.Batch.{Batch}
use Rattle.metric_export.specs.ExporterCalls.{Calls}
use Rattle.metric_export.specs.Handings.{Answering, Exporting}
use Rattle.metric_export.specs.declared.fault.ExportFault.{ExportFault}
use Rattle.metric_periodic.specs.Collections.{Collected, batches_of}
use Rattle.metric_periodic.specs.Counts.{delayed_after, exported_after, refused_after}

-- an exporter, with the counts of the batches that it took, of those that it neither took nor keeps
-- and of its shutdown that failed, of those that it keeps, of the collections that were refused, and
-- of its flushes that failed
pub record Tally (E : Type 0) : Type 0 where
  pub exporter : E
  pub exported : ℕ
  pub failed : ℕ
  pub delayed : ℕ
  pub refused : ℕ
  pub unflushed : ℕ

abbrev pub tally : {E : Type 0} → E → ℕ → ℕ → ℕ → ℕ → ℕ → Tally E
tally exporter exported failed delayed refused unflushed = record {
  exporter = exporter;
  exported = exported;
  failed = failed;
  delayed = delayed;
  refused = refused;
  unflushed = unflushed;
}

-- The exporter was called once, for a batch, and its answer counted.
pub record ExportsOne {E : Type 0}
    (exports : Exporting E)
    (old new : Tally E)
    (batch : Batch) : Type 0 where
  pub answer : Result (Unit {0}) ExportFault
  pub call : exports old.exporter new.exporter batch answer
  pub exported : new.exported ≡ exported_after old.exported answer
  pub failed : new.failed ≡ refused_after old.failed answer
  pub delayed : new.delayed ≡ delayed_after old.delayed answer
  pub refused : new.refused ≡ old.refused
  pub unflushed : new.unflushed ≡ old.unflushed

-- it was, and answered this
abbrev pub Answered : {E : Type 0} → Exporting E → Exporting (Tally E)
Answered exports old new batch answer =
    (one : ExportsOne exports old new batch) × (one.answer ≡ answer)

-- it was called once for each batch, in order, and for no other
abbrev pub ExportsEach : {E : Type 0} → Exporting E → Tally E → Tally E → List Batch → Type 0
ExportsEach exports old new [] = new ≡ old
ExportsEach {E} exports old new (batch ∷ batches) =
    (mid : Tally E) × (ExportsOne exports old mid batch × ExportsEach exports mid new batches)

-- a collection in which something was refused is counted
abbrev pub with_refusal : {E : Type 0} → Tally E → Bool → Tally E
with_refusal counts false = counts
with_refusal counts true = record counts { refused = next_count counts.refused }

-- a collection was counted, and the exporter called for each batch that it gave
abbrev pub ExportsCollected : {E : Type 0} → Exporting E → Tally E → Tally E → Collected → Type 0
ExportsCollected exports old new collected =
    ExportsEach exports (with_refusal old (is_err collected)) new (batches_of collected)

-- the failed calls after one with this answer
abbrev pub failed_after : ℕ → Result (Unit {0}) ExportFault → ℕ
failed_after failed (Ok done) = failed
failed_after failed (Err fault) = next_count failed

-- The exporter was flushed once, and a failure counted.
pub record IsFlushed {E : Type 0}
    (flushes : Answering E)
    (old new : Tally E) : Type 0 where
  pub answer : Result (Unit {0}) ExportFault
  pub call : flushes old.exporter new.exporter answer
  pub exported : new.exported ≡ old.exported
  pub failed : new.failed ≡ old.failed
  pub delayed : new.delayed ≡ old.delayed
  pub refused : new.refused ≡ old.refused
  pub unflushed : new.unflushed ≡ failed_after old.unflushed answer

-- The exporter tried once more what it keeps.
pub record IsRetried {E : Type 0}
    (retries : Answering E)
    (old new : Tally E) : Type 0 where
  pub answer : Result (Unit {0}) ExportFault
  pub call : retries old.exporter new.exporter answer
  pub counts : new ≡ record old { exporter = new.exporter }

-- it was flushed, or tried again, and answered this
abbrev pub Flushes : {E : Type 0} → Answering E → Answering (Tally E)
Flushes flushes old new answer = (one : IsFlushed flushes old new) × (one.answer ≡ answer)

abbrev pub Retries : {E : Type 0} → Answering E → Answering (Tally E)
Retries retries old new answer = (one : IsRetried retries old new) × (one.answer ≡ answer)

-- The exporter was shut down, and a failure counted.
pub record ShutsDown {E : Type 0}
    (shuts_down : Answering E)
    (old new : Tally E) : Type 0 where
  pub answer : Result (Unit {0}) ExportFault
  pub call : shuts_down old.exporter new.exporter answer
  pub exported : new.exported ≡ old.exported
  pub failed : new.failed ≡ failed_after old.failed answer
  pub delayed : new.delayed ≡ old.delayed
  pub refused : new.refused ≡ old.refused
  pub unflushed : new.unflushed ≡ old.unflushed

-- whether a collection gave no batch
abbrev pub gave_none : Collected → Bool
gave_none collected = length (batches_of collected) == 0

-- it tried once more what it keeps, where it was to
abbrev pub RetriesWhere : {E : Type 0} → Bool → Answering E → Tally E → Tally E → Type 0
RetriesWhere true retries old new = IsRetried retries old new
RetriesWhere false retries old new = new ≡ old

-- A collection was counted, and the exporter called for each batch that it gave; it tried once more
-- what it keeps, where that was asked for or there was none; and then it was flushed.
pub record HandsOnCollected {E : Type 0}
    (calls : Calls E)
    (asked : Bool)
    (old new : Tally E)
    (collected : Collected) : Type 0 where
  pub between : Tally E
  pub settled : Tally E
  pub exported : ExportsCollected calls.exports old between collected
  pub retried : RetriesWhere (asked || gave_none collected) calls.retries between settled
  pub flushed : IsFlushed calls.flushes settled new
