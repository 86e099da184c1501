-- The first faulty line of the script is the first fault of the parts.
use Rattle.std.proofs.Common.{◌≡◌, Some, Result, Ok, Err, IfErr, IsErrAnd, sym, subst}
use Rattle.metric_parts.specs.Texts.{ScriptLines}
use Rattle.metric_parts.specs.declared.parts.Parts.{Parts}
use Rattle.metric_parts.specs.Faults.{OnInput}
use Rattle.metric_parts.specs.declared.fault.InputFault.{InputFault}
use Rattle.metric_parts.specs.declared.fault.InputFault.TheVariants as input
use Rattle.metric_script.specs.Scripts.{IsFirstFaultAt}
use Rattle.metric_plan.specs.Plans.{PlanValue}
use Rattle.metric_kit_commands.specs.declared.options.ReplayOptions.{ReplayOptions}
use Rattle.metric_kit_commands.specs.declared.fault.KitFault.{KitFault}
use Rattle.metric_kit_commands.specs.Faults.{from_input}
use Rattle.metric_kit_commands.specs.Replaying.{IsPlanned, IsReplayFault}

pub script_refused : {X : Type 0} (options : ReplayOptions) (read : Parts) (script : ScriptLines)
    (plan : PlanValue) (fault : InputFault) (r : Result X KitFault)
    → IsPlanned options read plan → read.script ≡ Some script → OnInput fault (IsFirstFaultAt script)
    → IsErrAnd r (λ kit. kit ≡ from_input fault)
    → IfErr r (λ kit. IsReplayFault options kit read)
script_refused options read script plan fault (Ok x) planned has first told = tt
script_refused options read script plan input.Memory (Err kit) planned has first told =
    subst (λ (k : KitFault). IsReplayFault options k read) (sym told) tt
script_refused options read script plan (input.Input line) (Err kit) planned has first told =
    subst (λ (k : KitFault). IsReplayFault options k read) (sym told)
    (record { script = script; plan = plan; is_planned = planned; has_script = has; first = first })
