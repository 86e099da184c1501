use Rattle.std.proofs.Common.{rules}
use Rattle.metric_catalogue.proofs.instruments.is_range.Goals as goal

pub returns-then-not-is_monotonic : goal.returns-then-not-is_monotonic
returns-then-not-is_monotonic c = search rules
