use Rattle.std.proofs.Common.{rules}
use Rattle.metric_glob.proofs.why.settle.Goals as goal

pub returns-in_ok-push : goal.returns-in_ok-push
returns-in_ok-push c = search rules
