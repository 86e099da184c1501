-- What a call that hands on a batch appends.
use Rattle.std.specs.Prelude.{◌≡◌, ◌==◌, ℕ, Bool, true, false, List, Option, Some, None, Result, Ok, Err}
use Rattle.std.specs.Io.KnownBytes.{Appends, Keeps}
use Rattle.metric_io.specs.Prefix.{AppendsPrefix}
use Rattle.metric_history.specs.declared.batch.Batch.{Batch}
use Rattle.metric_plan.specs.Plans.{PlanValue, print_of}
use Rattle.metric_lines.specs.Batches.{batch_text}
use Rattle.metric_export.specs.declared.fault.ExportFault.{ExportFault}
use Rattle.metric_export.specs.declared.fault.ExportFault.TheVariants.{Write, ShutDown, Memory, Kept}
use Rattle.metric_export.specs.declared.fault.ExportFault.TheVariants.{OtherPlan, OtherReader}

-- # what an export appends (SDK, push metric exporter) [is_own, refuses, plan_text, Exports,
-- KeepsNone]
-- The text of a batch of a plan in an encoding, a prefix of it, or nothing, by the call's answer. An
-- exporter that keeps nothing never says that it keeps a batch.
abbrev pub is_own : PlanValue → Batch → Bool
is_own plan batch = batch.plan == print_of plan

-- by what a batch is refused, by whether it is of the plan, and whether the batches of its reader are
-- taken
abbrev pub refused_as : Bool → Bool → Option ExportFault
refused_as false takes = Some OtherPlan
refused_as true false = Some OtherReader
refused_as true true = None

-- the same of an exporter that takes the batches of these readers
abbrev pub refuses : (ℕ → ℕ → Bool) → PlanValue → Batch → Option ExportFault
refuses takes plan batch = refused_as (is_own plan batch) (takes batch.plan batch.reader)

-- the answer to a batch, by what it is refused by
abbrev pub answer_to : Option ExportFault → Result (Unit {0}) ExportFault
answer_to None = Ok tt
answer_to (Some why) = Err why

-- the text of a batch of a plan
abbrev pub plan_text : PlanValue → Batch → List ℕ
plan_text plan batch = batch_text plan.facts.contents plan.config plan.streams batch

-- what is appended, by the answer: the whole text, a prefix of it where the device
-- failed or the batch is kept, and nothing on any other fault
abbrev pub Exports : {T : Type 0} → Option (List ℕ) → Option (List ℕ) → List ℕ
    → Result T ExportFault → Type 0
Exports old new text (Ok done) = Appends old new text
Exports old new text (Err Write) = AppendsPrefix old new text
Exports old new text (Err ShutDown) = Keeps old new
Exports old new text (Err Memory) = Keeps old new
Exports old new text (Err Kept) = AppendsPrefix old new text
Exports old new text (Err OtherPlan) = Keeps old new
Exports old new text (Err OtherReader) = Keeps old new

-- whether a batch was taken, by the answer: it went out, or the exporter keeps it to try it again
abbrev pub is_taken : Result (Unit {0}) ExportFault → Bool
is_taken (Ok done) = true
is_taken (Err Write) = false
is_taken (Err ShutDown) = false
is_taken (Err Memory) = false
is_taken (Err Kept) = true
is_taken (Err OtherPlan) = false
is_taken (Err OtherReader) = false

-- what an exporter that keeps nothing may answer for a batch, by what that is refused by: never that
-- it keeps it, nor that it is another's where it is not
abbrev pub KeepsNone : Option ExportFault → Result (Unit {0}) ExportFault → Type 0
KeepsNone refused (Ok done) = Unit {0}
KeepsNone refused (Err Write) = Unit {0}
KeepsNone refused (Err ShutDown) = Unit {0}
KeepsNone refused (Err Memory) = Unit {0}
KeepsNone refused (Err Kept) = ⊥
KeepsNone refused (Err OtherPlan) = refused ≡ Some OtherPlan
KeepsNone refused (Err OtherReader) = refused ≡ Some OtherReader
