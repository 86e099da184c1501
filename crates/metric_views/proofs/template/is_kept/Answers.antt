use Rattle.std.proofs.Common.{rules}
use Rattle.metric_views.proofs.template.is_kept.Goals as goal

pub returns-then-is_wanted : goal.returns-then-is_wanted
returns-then-is_wanted c = search rules
