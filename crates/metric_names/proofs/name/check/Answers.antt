-- the last way out, which a wrong bound breaks
use Rattle.std.proofs.Common.{rules}
use Rattle.metric_names.proofs.name.check.Goals as goal

pub returns : goal.returns
returns c = search rules
