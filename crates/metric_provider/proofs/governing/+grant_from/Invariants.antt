use Rattle.std.proofs.Common.{◌-◌}
use Rattle.metric_provider.proofs.governing.+grant_from.Given as goal

abbrev pub decreases-grant_from : goal.decreases-grant_from
decreases-grant_from g l = g.L.Row.count l.row.now - l.at
