use Rattle.std.proofs.Common.{◌∙◌, ap, Option}
use Rattle.std.specs.Prelude.{is_some}
use Rattle.clap.proofs.WalkLemmas.{first_value-rows}
use Rattle.clap.specs.Words.{Text, found_of}
use Rattle.metric_command_lines.proofs.Readings.{given_some}
use Rattle.metric_command_lines.proofs.wormweekly.reading.has_text.Goals as goal

pub returns : goal.returns
returns c =
    c.is_some.ensures
    ∙ given_some c.get_str.result
    ∙ ap (λ (read : Option Text). is_some read) (c.get_str.ensures ∙ first_value-rows (found_of c.args.arguments.now) c.args.id.now)
