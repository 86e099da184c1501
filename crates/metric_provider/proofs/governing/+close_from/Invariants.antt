use Rattle.std.proofs.Common.{◌-◌}
use Rattle.metric_provider.proofs.governing.+close_from.Given as goal

abbrev pub decreases-close_from : goal.decreases-close_from
decreases-close_from g l = g.L.Row.count l.row.now - l.at
