-- An exporter that keeps its batches in memory.
use Rattle.std.specs.Prelude.{◌≡◌, true, List, [], ◌∷◌, ◌++◌, Result, Ok, Err}
use Rattle.metric_history.specs.declared.batch.Batch.{Batch}
use Rattle.metric_plan.specs.Plans.{PlanValue}
use Rattle.metric_export.specs.Exports.{KeepsNone, refuses}
use Rattle.metric_export.specs.States.{Admits}
use Rattle.metric_export.specs.declared.fault.ExportFault.{ExportFault}
use Rattle.metric_export.specs.declared.state.ExporterState.{ExporterState}
use Rattle.metric_export.specs.declared.state.ExporterState.TheVariants.{ShutDown}

-- such an exporter, as contracts see it: the batches, in order, and its state
pub record KeepingValue : Type 0 where
  pub batches : List Batch
  pub state : ExporterState

-- # what a keeping exporter has (SDK, in-memory exporter) [KeepsBatch, OnlyFlushed, OnlyShutDown]
-- Each batch that it took, put last; one that it refused it does not say to keep.
abbrev pub KeepsBatch : KeepingValue → KeepingValue → PlanValue → Batch
    → Result (Unit {0}) ExportFault → Type 0
KeepsBatch old new plan batch (Ok done) = new ≡ record old { batches = old.batches ++ batch ∷ [] }
KeepsBatch old new plan batch (Err fault) =
    (new ≡ old) × KeepsNone (refuses (λ _ _. true) plan batch) (Err fault)

-- a flush does nothing, and is answered by the state alone
abbrev pub OnlyFlushed : KeepingValue → KeepingValue → Result (Unit {0}) ExportFault → Type 0
OnlyFlushed old new answer = (new ≡ old) × Admits old.state answer

-- so is a shutdown, and the batches stay
abbrev pub OnlyShutDown : KeepingValue → KeepingValue → Result (Unit {0}) ExportFault → Type 0
OnlyShutDown old new answer = (new ≡ record old { state = ShutDown }) × Admits old.state answer
