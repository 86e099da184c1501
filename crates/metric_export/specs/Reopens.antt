-- An exporter of texts that opens a new sink after a failure.
use Rattle.std.specs.Prelude.{◌≡◌, ◌≢◌, ℕ, Bool, List, Option, Some, None, Result, Ok, Err}
use Rattle.metric_io.specs.Counts.{HasFailed}
use Rattle.metric_io.specs.declared.devices.Broken.{Broken}
use Rattle.metric_history.specs.declared.batch.Batch.{Batch}
use Rattle.metric_plan.specs.Plans.{PlanValue}
use Rattle.metric_export.specs.ExporterCalls.{Flushing, FlushesOnce}
use Rattle.metric_export.specs.Exports.{Exports, refuses}
use Rattle.metric_export.specs.Queues.{failures_after}
use Rattle.metric_export.specs.declared.fault.ExportFault.{ExportFault}
use Rattle.metric_export.specs.declared.fault.ExportFault.TheVariants as fault
use Rattle.metric_export.specs.declared.state.ExporterState.{ExporterState}
use Rattle.metric_export.specs.declared.state.ExporterState.TheVariants.{Open, ShutDown}

-- such an exporter, as contracts see it: its encoding, what opens sinks, the sink that is open,
-- how often a call failed, and its state
pub record ReopeningValue (O W E : Type 0) : Type 0 where
  pub encoding : E
  pub opener : O
  pub sink : Option W
  pub failures : ℕ
  pub state : ExporterState

-- what is said of opening a sink: the opener before and after it, and the answer
abbrev pub Opening : Type 0 → Type 0 → Type 1
Opening O W = O → O → Result W Broken → Type 0

-- the sink that is open, or else a new one
abbrev pub FindsSink : {O W : Type 0} → Opening O W → O → O → Option W → Result W Broken → Type 0
FindsSink opens old new None found = opens old new found
FindsSink opens old new (Some sink) found = (found ≡ Ok sink) × (new ≡ old)

-- a sink stays open but where it failed
abbrev pub left_open : {W : Type 0} → W → Result (Unit {0}) ExportFault → Option W
left_open sink (Ok done) = Some sink
left_open sink (Err fault.Write) = None
left_open sink (Err fault.ShutDown) = Some sink
left_open sink (Err fault.Memory) = Some sink
left_open sink (Err fault.Kept) = Some sink
left_open sink (Err fault.OtherPlan) = Some sink
left_open sink (Err fault.OtherReader) = Some sink

-- what a write is answered by: Write exactly where the sink failed, and when out of memory the sink
-- was not asked
abbrev pub AnswersWrite : {W : Type 0} → (W → ℕ) → W → W → Result (Unit {0}) ExportFault → Type 0
AnswersWrite failures old new (Ok done) = failures new ≡ failures old
AnswersWrite failures old new (Err fault.Write) = HasFailed (failures old) (failures new)
AnswersWrite failures old new (Err fault.ShutDown) = ⊥
AnswersWrite failures old new (Err fault.Memory) = new ≡ old
AnswersWrite failures old new (Err fault.Kept) = ⊥
AnswersWrite failures old new (Err fault.OtherPlan) = ⊥
AnswersWrite failures old new (Err fault.OtherReader) = ⊥

-- A text was written to a sink, or a prefix of it where the sink failed, which then is let go.
pub record WritesText {W : Type 0}
    (contents : W → Option (List ℕ))
    (failures : W → ℕ)
    (text : List ℕ)
    (sink : W)
    (left : Option W)
    (answer : Result (Unit {0}) ExportFault) : Type 0 where
  pub after : W
  pub exports : Exports (contents sink) (contents after) text answer
  pub answers : AnswersWrite failures sink after answer
  pub left_is : left ≡ left_open after answer

-- the same of the sink that was found; where none could be opened, the answer is Write
abbrev pub WritesToFound : {W : Type 0} → (W → Option (List ℕ)) → (W → ℕ) → List ℕ
    → Result W Broken → Option W → Result (Unit {0}) ExportFault → Type 0
WritesToFound contents failures text (Ok sink) left answer =
    WritesText contents failures text sink left answer
WritesToFound contents failures text (Err broken) left answer =
    (left ≡ None) × (answer ≡ Err fault.Write)

-- One text was handed on by an exporter that takes calls.
pub record WritesAnew {O W E : Type 0}
    (opens : Opening O W)
    (contents : W → Option (List ℕ))
    (failures : W → ℕ)
    (text : List ℕ)
    (old new : ReopeningValue O W E)
    (answer : Result (Unit {0}) ExportFault) : Type 0 where
  pub found : Result W Broken
  pub finds : FindsSink opens old.opener new.opener old.sink found
  pub writes : WritesToFound contents failures text found new.sink answer
  pub counted : new.failures ≡ failures_after old.failures answer
  pub state : new.state ≡ old.state
  pub encoding : new.encoding ≡ old.encoding

-- # what goes to sinks opened anew (profile) [ExportsAnew, WritesAnew, FindsSink, WritesText,
-- AnswersWrite, FlushesOpen, FlushesReopening, Reopens, ShutsReopeningDown]
-- A text goes to the sink that is open, or else to a new one; one that failed is let go, also where
-- a flush failed, and so is one that is flushed to be opened anew.
pub record ExportsAnew {O W E : Type 0}
    (text : E → PlanValue → Batch → List ℕ)
    (takes : E → ℕ → ℕ → Bool)
    (opens : Opening O W)
    (contents : W → Option (List ℕ))
    (failures : W → ℕ)
    (old new : ReopeningValue O W E)
    (plan : PlanValue)
    (batch : Batch)
    (answer : Result (Unit {0}) ExportFault) : Type 0 where
  pub writes : old.state ≡ Open → refuses (takes old.encoding) plan batch ≡ None
      → WritesAnew opens contents failures (text old.encoding plan batch) old new answer
  pub others : refuses (takes old.encoding) plan batch ≢ None → new ≡ old
  pub unwritten : old.state ≢ Open → new ≡ old

-- the open sink was flushed once, and stays open unless that failed; where none is open, nothing is done
abbrev pub FlushesOpen : {W : Type 0} → Flushing W → Option W → Option W
    → Result (Unit {0}) ExportFault → Type 0
FlushesOpen flushes None left answer = (left ≡ None) × (answer ≡ Ok tt)
FlushesOpen {W} flushes (Some sink) left answer =
    (after : W) × (FlushesOnce flushes sink after answer × (left ≡ left_open after answer))

-- The sink of an exporter that takes calls was flushed, and nothing else was done.
pub record FlushesAnew {O W E : Type 0}
    (flushes : Flushing W)
    (old new : ReopeningValue O W E)
    (answer : Result (Unit {0}) ExportFault) : Type 0 where
  pub flushed : FlushesOpen flushes old.sink new.sink answer
  pub counted : new.failures ≡ failures_after old.failures answer
  pub opener : new.opener ≡ old.opener
  pub encoding : new.encoding ≡ old.encoding

-- One call of `force_flush`: where the exporter was shut down, nothing is done.
pub record FlushesReopening {O W E : Type 0}
    (flushes : Flushing W)
    (old new : ReopeningValue O W E)
    (answer : Result (Unit {0}) ExportFault) : Type 0 where
  pub flushed : old.state ≡ Open → FlushesAnew flushes old new answer
  pub state : new.state ≡ old.state
  pub unflushed : old.state ≢ Open → new ≡ old

-- One call of `reopen`: the open sink was flushed, and let go where that was done.
abbrev pub Reopens : {O W E : Type 0} → Flushing W → ReopeningValue O W E → ReopeningValue O W E
    → Result (Unit {0}) ExportFault → Type 0
Reopens {O} {W} {E} flushes old new (Ok done) =
    (left : ReopeningValue O W E)
    × (FlushesReopening flushes old left (Ok done) × (new ≡ record left { sink = None }))
Reopens flushes old new (Err fault) = FlushesReopening flushes old new (Err fault)

-- One call of `shutdown`: the same, and the exporter is shut down.
pub record ShutsReopeningDown {O W E : Type 0}
    (flushes : Flushing W)
    (old new : ReopeningValue O W E)
    (answer : Result (Unit {0}) ExportFault) : Type 0 where
  pub flushed : old.state ≡ Open → FlushesAnew flushes old new answer
  pub state : new.state ≡ ShutDown
  pub unflushed : old.state ≢ Open → new ≡ record old { state = ShutDown }
