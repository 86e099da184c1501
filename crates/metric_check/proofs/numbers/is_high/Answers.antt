use Rattle.std.proofs.Common.{rules}
use Rattle.metric_check.proofs.numbers.is_high.Goals as goal

pub returns-then-not-summed : goal.returns-then-not-summed
returns-then-not-summed c = search rules
