use Rattle.std.proofs.Common.{ap, ◌∙◌}
use Rattle.std.proofs.lemmas.Result.{IfOk-weaker, IfErr-weaker}
use Rattle.metric_parts.specs.Reading.{texts}
use Rattle.metric_kit_commands.proofs.AnsweredInputs.{lines_refused, read_of_input}
use Rattle.metric_kit_commands.proofs.command.read_and_answer.Goals as goal

pub returns-in_err-parts-clause-first : goal.returns-in_err-parts-clause-first
returns-in_err-parts-clause-first g c =
    lines_refused _ c.needed_parts.result _ _ c.args.input.now c.in_err-parts.field-0.0 c.from_residual-in_err-parts.result
    (g.met.C.Command.unread c.args.command.now c.args.input.now) (g.met.C.Command.unremembered c.args.command.now c.args.input.now)
    c.needed_parts.ensures (ap texts c.deref.ensures.value ∙ c.in_ok-lines.ensures) c.in_err-parts.ensures.input c.from_residual-in_err-parts.ensures.1

pub returns-clause-ok : goal.returns-clause-ok
returns-clause-ok g c =
    IfOk-weaker c.answer.result _ _
    (λ answer is. record {
      read = c.in_ok-parts.parts;
      is_read = read_of_input _ _ _ c.args.input.now _ c.needed_parts.ensures (ap texts c.deref.ensures.value ∙ c.in_ok-lines.ensures) c.in_ok-parts.ensures.parts;
      is_answer = is;
    })
    c.answer.ensures.ok

pub returns-clause-first : goal.returns-clause-first
returns-clause-first g c =
    IfErr-weaker c.answer.result _ _
    (λ fault is. g.met.C.Command.refused c.args.command.now c.args.input.now _ fault
    (read_of_input _ _ _ c.args.input.now _ c.needed_parts.ensures (ap texts c.deref.ensures.value ∙ c.in_ok-lines.ensures) c.in_ok-parts.ensures.parts) is)
    c.answer.ensures.first
