use Rattle.std.proofs.Common.{rules}
use Rattle.metric_lines.proofs.stream.push_warning.Goals as goal

pub returns-in-Collision : goal.returns-in-Collision
returns-in-Collision c = search rules
