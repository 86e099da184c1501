use Rattle.std.proofs.Common.{rules}
use Rattle.metric_lines.proofs.keys.attribute_of.Goals as goal

pub returns : goal.returns
returns c = search rules
