use Rattle.std.proofs.Common.{rules}
use Rattle.metric_command_lines.proofs.kit.reading.line_asked.Goals as goal

pub returns-in-None : goal.returns-in-None
returns-in-None c = search rules
