use Rattle.std.proofs.Common.{◌-◌}
use Rattle.metric_provider.proofs.governing.+spare_from.Given as goal

abbrev pub decreases-spare_from : goal.decreases-spare_from
decreases-spare_from g l = g.L.Row.count l.row.now - l.at
