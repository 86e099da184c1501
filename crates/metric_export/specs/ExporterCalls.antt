-- What one call of an exporter does.
use Rattle.std.specs.Prelude.{◌≡◌, ◌≢◌, ℕ, Bool, List, Option, Some, None, OnOk, Result, Ok, Err, IsErrOf}
use Rattle.std.specs.Io.KnownBytes.{Keeps}
use Rattle.metric_io.specs.Counts.{HasFailed}
use Rattle.metric_io.specs.declared.devices.Broken.{Broken}
use Rattle.metric_history.specs.declared.batch.Batch.{Batch}
use Rattle.metric_plan.specs.Plans.{PlanValue}
use Rattle.metric_export.specs.Exports.{Exports, KeepsNone, refuses}
use Rattle.metric_export.specs.States.{Answers, GoesOn, TextExporterValue, refused_in, state_after}
use Rattle.metric_export.specs.Handings.{Answering, Exporting}
use Rattle.metric_export.specs.declared.exporter.MetricExporter as exporter
use Rattle.metric_export.specs.declared.fault.ExportFault.{ExportFault}
use Rattle.metric_export.specs.declared.fault.ExportFault.TheVariants as fault
use Rattle.metric_export.specs.declared.state.ExporterState.TheVariants.{Open, ShutDown}

module _ {E : Type 0} (by : exporter.Ghosts E) where
  -- One call of `export`, as contracts see an exporter: what the exporter itself says of the call,
  -- what was appended, the answer, the state after it, and what is another's.
  pub record IsExport (plan : PlanValue) (old new : E) (batch : Batch)
      (answer : Result (Unit {0}) ExportFault) : Type 0 where
    pub own : by.export_gives old new plan batch answer
    pub appends : Exports (by.contents old) (by.contents new) (by.text old plan batch) answer
    pub same_text : by.text new ≡ by.text old
    pub same_takes : by.takes new ≡ by.takes old
    pub answers : Answers (by.state old) (HasFailed (by.failures old) (by.failures new)) answer
    pub goes_on : GoesOn (by.state old) (by.state new) answer
    pub others : (why : ExportFault) → refuses (by.takes old) plan batch ≡ Some why
        → answer ≡ Err (refused_in why (by.state old))

  -- # flush of an exporter (SDK, push metric exporter, force flush) [IsFlush, FlushesOnce,
  -- FlushesText, ShutsTextDown]
  -- An open exporter flushes its sink once, and its answer is that of the sink.
  pub record IsFlush (old new : E) (answer : Result (Unit {0}) ExportFault) : Type 0 where
    pub own : by.flush_gives old new answer
    pub keeps : Keeps (by.contents old) (by.contents new)
    pub same_text : by.text new ≡ by.text old
    pub same_takes : by.takes new ≡ by.takes old
    pub answers : Answers (by.state old) (HasFailed (by.failures old) (by.failures new)) answer
    pub goes_on : GoesOn (by.state old) (by.state new) answer

  -- One call of `retry`, by which nothing of a text is appended that contracts know.
  pub record IsRetry (plan : PlanValue) (old new : E) (answer : Result (Unit {0}) ExportFault)
      : Type 0 where
    pub own : by.retry_gives old new plan answer
    pub keeps : Keeps (by.contents old) (by.contents new)
    pub same_text : by.text new ≡ by.text old
    pub same_takes : by.takes new ≡ by.takes old
    pub goes_on : GoesOn (by.state old) (by.state new) answer

  -- One call of `shutdown`, which hands on nothing.
  pub record IsShutdown (old new : E) (answer : Result (Unit {0}) ExportFault) : Type 0 where
    pub own : by.shutdown_gives old new answer
    pub keeps : Keeps (by.contents old) (by.contents new)
    pub answers : Answers (by.state old) (HasFailed (by.failures old) (by.failures new)) answer
    pub shut_down : by.state new ≡ ShutDown

-- What is said of the calls of an exporter with a plan.
pub record Calls (E : Type 0) : Type 1 where
  pub exports : Exporting E
  pub flushes : Answering E
  pub retries : Answering E
  pub shuts_down : Answering E

abbrev pub calls_of : {E : Type 0} → exporter.Ghosts E → PlanValue → Calls E
calls_of by plan = record {
  exports = IsExport by plan;
  flushes = IsFlush by;
  retries = IsRetry by plan;
  shuts_down = IsShutdown by;
}

-- One call of `export` of an exporter of texts: Ok tells that no write failed, and
-- without a write the sink is as it was.
pub record ExportsText {W E : Type 0}
    (text : E → PlanValue → Batch → List ℕ)
    (takes : E → ℕ → ℕ → Bool)
    (contents : W → Option (List ℕ))
    (failures : W → ℕ)
    (old new : TextExporterValue W E)
    (plan : PlanValue)
    (batch : Batch)
    (answer : Result (Unit {0}) ExportFault) : Type 0 where
  pub encoding : new.encoding ≡ old.encoding
  pub appends : Exports (contents old.sink) (contents new.sink) (text old.encoding plan batch) answer
  pub answers : Answers old.state (HasFailed (failures old.sink) (failures new.sink)) answer
  pub state : new.state ≡ state_after old.state answer
  pub counted : OnOk answer (failures new.sink ≡ failures old.sink)
  pub unwritten : old.state ≢ Open → new ≡ old
  pub memory : IsErrOf answer fault.Memory → new ≡ old
  pub others : refuses (takes old.encoding) plan batch ≢ None → new ≡ old
  pub unkept : KeepsNone (refuses (takes old.encoding) plan batch) answer

-- what is said of a flush of a sink: the sink before and after it, and the answer
abbrev pub Flushing : Type 0 → Type 1
Flushing W = W → W → Result (Unit {0}) Broken → Type 0

-- what an exporter answers by the answer of its sink
abbrev pub flush_answer : Result (Unit {0}) Broken → Result (Unit {0}) ExportFault
flush_answer (Ok done) = Ok done
flush_answer (Err broken) = Err fault.Write

-- A sink was flushed once, and its answer passed on.
pub record FlushesOnce {W : Type 0} (flushes : Flushing W) (old new : W)
    (answer : Result (Unit {0}) ExportFault) : Type 0 where
  pub told : Result (Unit {0}) Broken
  pub call : flushes old new told
  pub passed : answer ≡ flush_answer told

-- One call of its `force_flush`: an open exporter flushes its sink once.
pub record FlushesText {W E : Type 0}
    (flushes : Flushing W)
    (old new : TextExporterValue W E)
    (answer : Result (Unit {0}) ExportFault) : Type 0 where
  pub encoding : new.encoding ≡ old.encoding
  pub flushed : old.state ≡ Open → FlushesOnce flushes old.sink new.sink answer
  pub state : new.state ≡ state_after old.state answer
  pub unflushed : old.state ≢ Open → new ≡ old

-- One call of its `shutdown`: an open exporter flushes its sink once.
pub record ShutsTextDown {W E : Type 0}
    (contents : W → Option (List ℕ))
    (failures : W → ℕ)
    (flushes : Flushing W)
    (old new : TextExporterValue W E)
    (answer : Result (Unit {0}) ExportFault) : Type 0 where
  pub encoding : new.encoding ≡ old.encoding
  pub keeps : Keeps (contents old.sink) (contents new.sink)
  pub answers : Answers old.state (HasFailed (failures old.sink) (failures new.sink)) answer
  pub state : new.state ≡ ShutDown
  pub counted : OnOk answer (failures new.sink ≡ failures old.sink)
  pub flushed : old.state ≡ Open → FlushesOnce flushes old.sink new.sink answer
  pub unflushed : old.state ≢ Open → new.sink ≡ old.sink
