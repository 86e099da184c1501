-- the rule has what each call put there
use Rattle.std.proofs.Common.{rules}
use Rattle.metric_command_lines.proofs.kit.reading.each_option.Goals as goal

pub returns-clause-rule : goal.returns-clause-rule
returns-clause-rule c = search rules
