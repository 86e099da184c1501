use Rattle.std.proofs.Common.{rules}
use Rattle.metric_bounds.proofs.sums.keeps_sum.Goals as goal

pub returns-in-Histogram : goal.returns-in-Histogram
returns-in-Histogram c = search rules
