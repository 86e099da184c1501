use Rattle.std.proofs.Common.{rules}
use Rattle.metric_kit_commands.proofs.ScriptFaults.{script_refused}
use Rattle.metric_kit_commands.proofs.prepared.prepared_run.Goals as goal

pub returns-in_err-script-clause-first : goal.returns-in_err-script-clause-first
returns-in_err-script-clause-first g c =
    script_refused c.args.options _ c.unwrap.result.now _ c.in_err-script.field-0.0 c.from_residual-in_err-script.result c.in_ok-plan.ensures.ok
    (search rules) c.in_err-script.ensures.input c.from_residual-in_err-script.ensures.1
