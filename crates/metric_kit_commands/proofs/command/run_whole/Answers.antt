use Rattle.std.proofs.Common.{Err, ap, ◌∙◌}
use Rattle.std.proofs.KnownBytes.{Keeps-refl}
use Rattle.metric_parts.specs.Reading.{texts}
use Rattle.metric_kit_commands.specs.Commands.{IsAnswerTo}
use Rattle.metric_kit_commands.specs.RunLaws.{answered, refused, unread}
use Rattle.metric_kit_commands.proofs.AnsweredInputs.{lines_refused, read_of_input}
use Rattle.metric_kit_commands.proofs.command.run_whole.Goals as goal

pub returns-in_err-input : goal.returns-in_err-input
returns-in_err-input g c =
    unread _ _ _ _ c.in_err-input.field-0.0 c.from_residual.result c.from_residual.ensures.1
    (λ e. c.in_err-input.ensures.read (ap (λ fault. Err fault) e)) (Keeps-refl _) c.read_all.ensures.reads
