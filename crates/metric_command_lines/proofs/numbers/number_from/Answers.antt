use Rattle.std.proofs.Common.{◌∙◌}
use Rattle.metric_command_lines.proofs.NumberLaws.{parsed}
use Rattle.metric_command_lines.proofs.numbers.number_from.Goals as goal

pub returns : goal.returns
returns c = c.unwrap_or.ensures ∙ parsed c.args.text.now c.parse.result c.parse.ensures.value.0
