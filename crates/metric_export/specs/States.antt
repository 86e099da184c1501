-- What an exporter answers by its state, and how the state goes on.
use Rattle.std.specs.Prelude.{◌≡◌, ◌⊎◌, Result, Ok, Err}
use Rattle.metric_export.specs.declared.fault.ExportFault.{ExportFault}
use Rattle.metric_export.specs.declared.fault.ExportFault.TheVariants as fault
use Rattle.metric_export.specs.declared.state.ExporterState.{ExporterState}
use Rattle.metric_export.specs.declared.state.ExporterState.TheVariants.{Open, Broken, ShutDown}

-- an exporter over a sink, in an encoding, as contracts see it
pub record TextExporterValue (W E : Type 0) : Type 0 where
  pub encoding : E
  pub sink : W
  pub state : ExporterState

-- # state of an exporter (SDK, push metric exporter, shutdown) [Admits, Answers, GoesOn,
-- state_after, refused_in]
-- Open, broken or shut down: what each call then answers, and how the state goes on.
abbrev pub Admits : {T : Type 0} → ExporterState → Result T ExportFault → Type 0
Admits state (Ok done) = state ≡ Open
Admits state (Err fault.Write) = state ≡ Broken
Admits state (Err fault.ShutDown) = state ≡ ShutDown
Admits state (Err fault.Memory) = ⊥
Admits state (Err fault.Kept) = ⊥
Admits state (Err fault.OtherPlan) = ⊥
Admits state (Err fault.OtherReader) = ⊥

-- what a call may answer, by the state that it finds: an open exporter fails only
-- where its device failed in this call
abbrev pub Answers : {T : Type 0} → ExporterState → Type 0 → Result T ExportFault → Type 0
Answers state failed (Ok done) = state ≡ Open
Answers state failed (Err fault.Write) = (state ≡ Broken) ⊎ ((state ≡ Open) × failed)
Answers state failed (Err fault.ShutDown) = state ≡ ShutDown
Answers state failed (Err fault.Memory) = state ≡ Open
Answers state failed (Err fault.Kept) = state ≡ Open
Answers state failed (Err fault.OtherPlan) = state ≡ Open
Answers state failed (Err fault.OtherReader) = state ≡ Open

-- the state after an export or a flush: it stays as it was, but a fault of
-- the device may break the exporter
abbrev pub GoesOn : {T : Type 0} → ExporterState → ExporterState → Result T ExportFault → Type 0
GoesOn old new (Ok done) = new ≡ old
GoesOn old new (Err fault.Write) = (new ≡ old) ⊎ (new ≡ Broken)
GoesOn old new (Err fault.ShutDown) = new ≡ old
GoesOn old new (Err fault.Memory) = new ≡ old
GoesOn old new (Err fault.Kept) = new ≡ old
GoesOn old new (Err fault.OtherPlan) = new ≡ old
GoesOn old new (Err fault.OtherReader) = new ≡ old

-- the state after a call with an answer, where each fault of the device breaks the exporter
abbrev pub state_after : {T : Type 0} → ExporterState → Result T ExportFault → ExporterState
state_after state (Ok done) = state
state_after state (Err fault.Write) = Broken
state_after state (Err fault.ShutDown) = state
state_after state (Err fault.Memory) = state
state_after state (Err fault.Kept) = state
state_after state (Err fault.OtherPlan) = state
state_after state (Err fault.OtherReader) = state

-- by what an exporter in this state refuses a batch that it would refuse by a fault where it is open
abbrev pub refused_in : ExportFault → ExporterState → ExportFault
refused_in why Open = why
refused_in why Broken = fault.Write
refused_in why ShutDown = fault.ShutDown
