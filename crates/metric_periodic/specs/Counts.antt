-- What a periodic reader hands on, and how it counts that.
use Rattle.std.specs.Prelude.{◌≡◌, ◌⊎◌, ℕ, List, [], ◌∷◌, Option, Some, None, Result, Ok, Err}
use Rattle.std.specs.Io.KnownBytes.{Keeps}
use Rattle.metric_io.specs.Counts.{next_count}
use Rattle.metric_history.specs.declared.batch.Batch.{Batch}
use Rattle.metric_export.specs.Exports.{Exports}
use Rattle.metric_export.specs.declared.fault.ExportFault.{ExportFault}
use Rattle.metric_export.specs.declared.fault.ExportFault.TheVariants as fault

-- what an exporter handed on, where it knows that, and the counts of its
-- exports, of its failed calls and of the batches that it keeps
pub record Handed : Type 0 where
  pub contents : Option (List ℕ)
  pub exported : ℕ
  pub failed : ℕ
  pub delayed : ℕ

abbrev pub handed : Option (List ℕ) → ℕ → ℕ → ℕ → Handed
handed contents exported failed delayed =
    record { contents = contents; exported = exported; failed = failed; delayed = delayed }

-- the batches that the exporter took, after one call with an answer
abbrev pub exported_after : ℕ → Result (Unit {0}) ExportFault → ℕ
exported_after exported (Ok done) = next_count exported
exported_after exported (Err fault) = exported

-- those that it neither took nor keeps
abbrev pub refused_after : ℕ → Result (Unit {0}) ExportFault → ℕ
refused_after failed (Ok done) = failed
refused_after failed (Err fault.Kept) = failed
refused_after failed (Err other) = next_count failed

-- those that it keeps to try them again
abbrev pub delayed_after : ℕ → Result (Unit {0}) ExportFault → ℕ
delayed_after delayed (Ok done) = delayed
delayed_after delayed (Err fault.Kept) = next_count delayed
delayed_after delayed (Err other) = delayed

-- a batch was handed on, once, and counted by the exporter's answer
pub record HandsOnOne (text : Batch → List ℕ) (old new : Handed) (batch : Batch) : Type 0 where
  pub answer : Result (Unit {0}) ExportFault
  pub exports : Exports old.contents new.contents (text batch) answer
  pub exported : new.exported ≡ exported_after old.exported answer
  pub failed : new.failed ≡ refused_after old.failed answer
  pub delayed : new.delayed ≡ delayed_after old.delayed answer

-- A flush hands on nothing, nor does a new try of what an exporter keeps.
pub record HandsOnNothing (old new : Handed) : Type 0 where
  pub kept : Keeps old.contents new.contents
  pub exported : new.exported ≡ old.exported
  pub failed : new.failed ≡ old.failed
  pub delayed : new.delayed ≡ old.delayed

-- one call of the exporter, for a batch or for none
abbrev pub IsCall : (Batch → List ℕ) → Handed → Handed → Option Batch → Type 0
IsCall text old new (Some batch) = HandsOnOne text old new batch
IsCall text old new None = HandsOnNothing old new

-- calls one after the other
abbrev pub AreCalls : (Batch → List ℕ) → Handed → Handed → List (Option Batch) → Type 0
AreCalls text old new [] = new ≡ old
AreCalls text old new (call ∷ calls) =
    (mid : Handed) × (IsCall text old mid call × AreCalls text mid new calls)

-- some batches were handed on, each once and in order, with flushes between them
pub record HandsOn (text : Batch → List ℕ) (old new : Handed) : Type 0 where
  pub calls : List (Option Batch)
  pub are : AreCalls text old new calls

-- # what a reader hands on (SDK, periodic exporting metric reader) [HandsOnToEnd, HandsOn,
-- AreCalls, IsCall, HandsOnOne, HandsOnNothing, IsCounted]
-- Batches, each once and in order, counted by the exporter's answers, with a flush after each
-- collection; then the exporter is shut down, and a fault of that is one failure more.
pub record HandsOnToEnd (text : Batch → List ℕ) (old new : Handed) : Type 0 where
  pub before : Handed
  pub hands_on : HandsOn text old before
  pub kept : Keeps before.contents new.contents
  pub exported : new.exported ≡ before.exported
  pub delayed : new.delayed ≡ before.delayed
  pub failed : (new.failed ≡ before.failed) ⊎ (new.failed ≡ next_count before.failed)
