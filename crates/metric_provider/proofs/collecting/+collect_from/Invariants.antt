use Rattle.std.proofs.Common.{◌-◌}
use Rattle.metric_provider.proofs.collecting.+collect_from.Given as goal

abbrev pub decreases-collect_from : goal.decreases-collect_from
decreases-collect_from g l = g.L.Row.count l.row.now - l.at
