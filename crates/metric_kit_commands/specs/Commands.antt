-- What a command promises that reads one input and writes one text.
use Rattle.std.specs.Prelude.{◌≢◌, ◌≤◌, ◌+◌, ◌⊎◌, ℕ, List, [], Option, Some, Result, IfErr, IfSome}
use Rattle.std.specs.Prelude.{IsErrOf, IsSome, IsTrue, OnOk, OnErr}
use Rattle.std.specs.Io.KnownBytes.{Appends, Keeps}
use Rattle.metric_io.specs.Counts.{HasFailed, no_reads}
use Rattle.metric_io.specs.declared.counts.ReadCounts.{ReadCounts}
use Rattle.metric_io.specs.Input.{IsReadFault}
use Rattle.metric_io.specs.Prefix.{AppendsPrefix}
use Rattle.metric_io.specs.Input.{most_reads}
use Rattle.metric_text.specs.Lines.{lines_of}
use Rattle.metric_parts.specs.Kept.{IsRead}
use Rattle.metric_parts.specs.declared.needs.Needs.{Needs}
use Rattle.metric_parts.specs.declared.parts.Parts.{Parts}
use Rattle.metric_kit_commands.specs.declared.fault.KitFault.{KitFault}
use Rattle.metric_kit_commands.specs.declared.fault.KitFault.TheVariants.{Read, Write, Memory}

-- A source before and after a command: the bytes that it had left, and
-- its counts of reads and failures.
pub record SourceRun : Type 0 where
  pub input : Option (List ℕ)
  pub counts : ReadCounts
  pub counts_after : ReadCounts

abbrev pub source_run : {S : Type 0} → (S → Option (List ℕ)) → (S → ReadCounts) → S → S → SourceRun
source_run remaining counts old new =
    record { input = remaining old; counts = counts old; counts_after = counts new }

-- A sink before and after a command: the bytes that it held, and how often it failed.
pub record SinkRun : Type 0 where
  pub contents : Option (List ℕ)
  pub contents_after : Option (List ℕ)
  pub failures : ℕ
  pub failures_after : ℕ

abbrev pub sink_run : {S : Type 0} → (S → Option (List ℕ)) → (S → ℕ) → S → S → SinkRun
sink_run contents failures old new = record {
  contents = contents old;
  contents_after = contents new;
  failures = failures old;
  failures_after = failures new;
}

-- Of the bytes that were left, where the source tells them, some text is due, and this holds of it.
abbrev pub IfDue : (List ℕ → List ℕ → Type 0) → Option (List ℕ) → (List ℕ → Type 0) → Type 0
IfDue IsText input Holds = IfSome input (λ bytes. (text : List ℕ) × IsText bytes text × Holds text)

-- The answer, or the text that is written of it, is what a command makes of the parts of the input.
pub record IsAnswerTo {A : Type 0} (needs : Needs) (IsAnswer : Parts → A → Type 0)
    (input : List ℕ) (answer : A) : Type 0 where
  pub read : Parts
  pub is_read : IsRead needs (lines_of input) read
  pub is_answer : IsAnswer read answer

-- The parts that a command needs are there.
pub record HasNeeded (needs : Needs) (read : Parts) : Type 0 where
  pub certificate : IsTrue needs.certificate → IsSome read.certificate
  pub script : IsTrue needs.script → IsSome read.script

-- # promises of a command (profile) [RunsCommand, RunsParts]
-- Done, its whole text is written; else a prefix, and nothing where the input has a fault; each
-- fault is the first that the bytes have; `Read` and `Write` only where a device failed or a limit
-- was passed.
pub record RunsCommand {A : Type 0} (IsText : List ℕ → List ℕ → Type 0)
    (IsFirstFault : List ℕ → KitFault → Type 0)
    (source : SourceRun) (sink : SinkRun) (result : Result A KitFault) : Type 0 where
  -- Ok: exactly the text of the bytes read was written.
  pub done : OnOk result
      (IfDue IsText source.input (λ text. Appends sink.contents sink.contents_after text))
  -- Else a prefix of it, and nothing where the input has a fault or was not read.
  pub prefix : OnErr result (Keeps sink.contents sink.contents_after
      ⊎ IfDue IsText source.input (λ text. AppendsPrefix sink.contents sink.contents_after text))
  pub nothing : IfErr result
      (λ fault. fault ≢ Write → fault ≢ Memory → Keeps sink.contents sink.contents_after)
  -- Unless memory ran out, each other fault is the first that the input has.
  pub first : IfErr result (λ fault. fault ≢ Read → fault ≢ Write → fault ≢ Memory
      → IfSome source.input (λ bytes. IsFirstFault bytes fault))
  -- The devices are blamed only where they failed, or a limit on input was passed.
  pub read : IsErrOf result Read → IsReadFault source.counts source.counts_after source.input
  pub write : IsErrOf result Write → HasFailed sink.failures sink.failures_after
  pub asked : source.counts_after.reads ≤ source.counts.reads + most_reads

-- Of parts that were read before the command, it reads nothing, and each fault is the first that
-- they have.
abbrev pub RunsParts : {A : Type 0} → (List ℕ → Type 0) → (KitFault → Type 0) → SinkRun
    → Result A KitFault → Type 0
RunsParts {A} IsText IsFault sink result =
    RunsCommand (λ input text. IsText text) (λ input fault. IsFault fault)
    (record { input = Some []; counts = no_reads; counts_after = no_reads }) sink result
