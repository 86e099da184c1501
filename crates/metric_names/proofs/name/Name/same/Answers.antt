use Rattle.std.proofs.Common.{rules}
use Rattle.metric_names.proofs.name.Name.same.Goals as goal

pub returns : goal.returns
returns c = search rules
