-- The parts that the files of a replay are, and what the replay of parts is in each form.
use Rattle.std.specs.Prelude.{ℕ, Bool, List, [], ◌∷◌, Option, Some, Result}
use Rattle.metric_contents.specs.declared.attributes.OwnedAttr.{OwnedAttr}
use Rattle.metric_history.specs.declared.batch.Batch.{Batch}
use Rattle.metric_parts.specs.Texts.{ScriptLines}
use Rattle.metric_parts.specs.declared.parts.Parts.{Parts}
use Rattle.metric_plan.specs.Plans.{PlanValue}
use Rattle.metric_otlp.specs.Lines.{line}
use Rattle.metric_otlp.specs.Requests.{request}
use Rattle.metric_text.specs.Lines.{lines_of}
use Rattle.metric_command_lines.specs.declared.wormweekly.request.Form.{Form}
use Rattle.metric_command_lines.specs.declared.wormweekly.request.Form.TheVariants.{Replies, OtlpLines, OtlpBytes}
use Rattle.metric_kit_commands.specs.Commands.{RunsParts, SinkRun}
use Rattle.metric_kit_commands.specs.Replaying.{IsEncodedOutput, IsOutputOf, IsReplayFault, plain_options, replay_options}
use Rattle.metric_kit_commands.specs.declared.fault.KitFault.{KitFault}

-- # the parts that the files of a replay are, and what its replay is in each form (profile)
-- [scripted, IsReplayIn]
-- The texts of the files as they are, and the lines of the script, numbered from 1.
abbrev pub script_of : List (List ℕ) → ScriptLines
script_of lines = record { first_line = 1; lines = lines }

abbrev pub scripted : Parts → List ℕ → Parts
scripted parts script = record parts { script = Some (script_of (lines_of script)) }

-- The replay of parts, as `metric_kit` promises it of an input with them.
abbrev pub IsReplay : Bool → Bool → Parts → SinkRun → Result (Unit {0}) KitFault → Type 0
IsReplay trial audit parts sink result =
    RunsParts (IsOutputOf (replay_options trial audit) parts)
    (λ fault. IsReplayFault (replay_options trial audit) fault parts) sink result

-- The same of which only the batches are written, each in an encoding.
abbrev pub IsEncodedReplay : (PlanValue → Batch → List ℕ) → Bool → Parts → SinkRun
    → Result (Unit {0}) KitFault → Type 0
IsEncodedReplay encode trial parts sink result =
    RunsParts (IsEncodedOutput encode (plain_options trial) parts)
    (λ fault. IsReplayFault (plain_options trial) fault parts) sink result

-- a batch of a plan as a line of OTLP/JSON, and as an OTLP request
abbrev pub otlp_line : List OwnedAttr → PlanValue → Batch → List ℕ
otlp_line resource plan batch = line resource plan.facts.contents plan.streams (batch ∷ [])

abbrev pub otlp_request : List OwnedAttr → PlanValue → Batch → List ℕ
otlp_request resource plan batch = request resource plan.facts.contents plan.streams (batch ∷ [])

-- The replay in a form other than a page, where batches in OTLP have the attributes of a resource.
-- Only replies are audited.
abbrev pub IsReplayIn : Form → List OwnedAttr → Bool → Bool → Parts → SinkRun
    → Result (Unit {0}) KitFault → Type 0
IsReplayIn Replies resource trial audit = IsReplay trial audit
IsReplayIn OtlpLines resource trial audit = IsEncodedReplay (otlp_line resource) trial
IsReplayIn OtlpBytes resource trial audit = IsEncodedReplay (otlp_request resource) trial
IsReplayIn _ resource trial audit = λ parts sink result. ⊥
