-- the last moment is that of the tick that was given
use Rattle.std.proofs.Common.{rules}
use Rattle.metric_periodic.proofs.list_ticker.ListTickerTicker.next.Goals as goal

pub returns-clause-after : goal.returns-clause-after
returns-clause-after g c = search rules
