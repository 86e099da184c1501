-- What is written of replies in the form of an encoding is that of the batches.
use Rattle.std.proofs.Common.{◌∙◌, ℕ, Bool, List, Option, Some, None, Result, Ok, Err, inl, inr}
use Rattle.metric_history.specs.declared.batch.Batch.{Batch}
use Rattle.metric_plan.specs.Plans.{PlanValue}
use Rattle.metric_parts.specs.declared.parts.Parts.{Parts}
use Rattle.metric_kit_commands.specs.declared.fault.KitFault.{KitFault}
use Rattle.metric_kit_commands.specs.Commands.{IfDue, RunsCommand, SinkRun, SourceRun}
use Rattle.metric_kit_commands.specs.Replaying.{IsEncodedOutput, IsFormed, plain_options}
use Rattle.metric_kit_commands.specs.Replies.{encoded_reply}
use Rattle.metric_kit_commands.specs.Written.{parts_text}
use Rattle.metric_kit_commands.proofs.PieceLaws.{unnumbered}

-- replies in the form of an encoding are the batches in it
pub is_encoded : (encode : PlanValue → Batch → List ℕ) (trial : Bool) (read : Parts) (bytes : List ℕ) → IsFormed (encoded_reply encode) (plain_options trial) read bytes
    → IsEncodedOutput encode (plain_options trial) read bytes
unfolding parts_text
is_encoded encode trial read bytes formed = record {
  plan = formed.plan;
  replies = formed.replies;
  answered = formed.answered;
  written = formed.written ∙ unnumbered (encoded_reply encode formed.plan) 0 formed.replies;
}

if_due : (IsText IsOther : List ℕ → List ℕ → Type 0) → ((input text : List ℕ) → IsText input text → IsOther input text)
    → (input : Option (List ℕ)) (Holds : List ℕ → Type 0) → IfDue IsText input Holds → IfDue IsOther input Holds
if_due IsText IsOther is None Holds due = tt
if_due IsText IsOther is (Some bytes) Holds due = (due.0, is bytes due.0 due.1, due.2)

-- a command that writes a text of one kind writes one of a kind that this is of
pub of_kind : {A : Type 0} (IsText IsOther : List ℕ → List ℕ → Type 0) (IsFirst : List ℕ → KitFault → Type 0) (source : SourceRun) (sink : SinkRun)
    (result : Result A KitFault) → ((input text : List ℕ) → IsText input text → IsOther input text) → RunsCommand IsText IsFirst source sink result
    → RunsCommand IsOther IsFirst source sink result
of_kind IsText IsOther IsFirst source sink (Ok done) is runs = record {
  done = if_due IsText IsOther is source.input _ runs.done;
  prefix = tt;
  nothing = runs.nothing;
  first = runs.first;
  read = runs.read;
  write = runs.write;
  asked = runs.asked;
}
of_kind IsText IsOther IsFirst source sink (Err fault) is runs = record {
  done = tt;
  prefix = elim runs.prefix [ inl kept ↦ inl kept | inr due ↦ inr (if_due IsText IsOther is source.input _ due) ];
  nothing = runs.nothing;
  first = runs.first;
  read = runs.read;
  write = runs.write;
  asked = runs.asked;
}
