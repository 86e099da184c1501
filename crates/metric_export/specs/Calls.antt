-- What the calls of an exporter come to over a whole run.
use Rattle.std.specs.Prelude.{◌≡◌, ℕ, ◌⊎◌, Bool, true, false, List, [], ◌∷◌, ◌++◌, Result, Err}
use Rattle.std.specs.List.{AllByRecursion}
use Rattle.metric_io.specs.Counts.{HasFailed}
use Rattle.metric_export.specs.States.{Answers, GoesOn}
use Rattle.metric_export.specs.declared.fault.ExportFault.{ExportFault}
use Rattle.metric_export.specs.declared.fault.ExportFault.TheVariants as fault
use Rattle.metric_export.specs.declared.state.ExporterState.{ExporterState}
use Rattle.metric_export.specs.declared.state.ExporterState.TheVariants.{Open, ShutDown}

-- A call, as the clauses of an exporter tell of it: whether it shuts the exporter down, the states
-- and the counts of failures before and after it, and its answer.
pub record Call : Type 0 where
  pub is_shutdown : Bool
  pub before : ExporterState
  pub after : ExporterState
  pub failures_before : ℕ
  pub failures_after : ℕ
  pub answer : Result (Unit {0}) ExportFault

-- the device failed in the call
abbrev pub FailedIn : Call → Type 0
FailedIn call = HasFailed call.failures_before call.failures_after

-- the device failed in one of the calls
abbrev pub FailedInSome : List Call → Type 0
FailedInSome [] = ⊥
FailedInSome (call ∷ calls) = FailedIn call ⊎ FailedInSome calls

-- the state that a call leaves, where it shuts down and where not
abbrev pub Leaves : {T : Type 0} → Bool → ExporterState → ExporterState
    → Result T ExportFault → Type 0
Leaves true before after answer = after ≡ ShutDown
Leaves false before after answer = GoesOn before after answer

-- what the clauses of an exporter say of a call
abbrev pub IsCall : Call → Type 0
IsCall call =
    Answers call.before (FailedIn call) call.answer
    × Leaves call.is_shutdown call.before call.after call.answer

-- # runs of calls (SDK, push metric exporter) [IsRun, StaysShutDown, IsFaultOfDevice]
-- An exporter that was shut down stays so; a write fault is of the device, in that call or an
-- earlier one.
abbrev pub IsRun : ExporterState → List Call → Type 0
IsRun state [] = Unit {0}
IsRun state (call ∷ calls) = (call.before ≡ state) × (IsCall call × IsRun call.after calls)

-- after a call that shuts down, whatever it answered, every call answers ShutDown
abbrev pub StaysShutDown : Type 0
StaysShutDown = (state : ExporterState) (calls : List Call) (shutdown : Call) (later : List Call)
    → IsRun state (calls ++ shutdown ∷ later) → shutdown.is_shutdown ≡ true
    → AllByRecursion (λ call. call.answer ≡ Err fault.ShutDown) later

-- where the last of the calls of a new exporter answers Write, the device
-- failed in it or in an earlier one
abbrev pub IsFaultOfDevice : Type 0
IsFaultOfDevice =
    (calls : List Call) (last : Call) → IsRun Open (calls ++ last ∷ [])
    → last.answer ≡ Err fault.Write
    → FailedInSome (calls ++ last ∷ [])
