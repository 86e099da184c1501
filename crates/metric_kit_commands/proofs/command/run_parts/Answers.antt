-- The parts are refused, or their answer is written.
use Rattle.std.proofs.Common.{[], arith, refl}
use Rattle.std.proofs.KnownBytes.{Keeps-refl}
use Rattle.metric_kit_commands.specs.RunLaws.{answered, refused}
use Rattle.metric_kit_commands.proofs.command.run_parts.Goals as goal

pub returns-in_err-answer : goal.returns-in_err-answer
returns-in_err-answer g c =
    refused _ _ _ _ c.in_err-answer.field-0.0 c.from_residual.result [] [] c.from_residual.ensures.1 refl refl c.in_err-answer.ensures.first
    c.in_err-answer.ensures.own (Keeps-refl _) (omega arith)

pub returns : goal.returns
returns g c =
    answered _ _ _ _ c.write_answer.result [] [] (g.C.Command.text c.args.command.now c.args.parts.now c.in_ok-answer.answer) refl refl
    (g.met.C.Command.answered c.args.command.now c.args.parts.now c.in_ok-answer.answer c.in_ok-answer.ensures.ok)
    c.write_answer.ensures.ok c.write_answer.ensures.prefix c.write_answer.ensures.broken (omega arith)
