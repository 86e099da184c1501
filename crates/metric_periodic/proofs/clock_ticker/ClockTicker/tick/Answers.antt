-- a tick is never before the last one
use Rattle.std.proofs.Common.{rules}
use Rattle.metric_periodic.proofs.clock_ticker.ClockTicker.tick.Goals as goal

pub returns-in-None-clause-tick : goal.returns-in-None-clause-tick
returns-in-None-clause-tick c = search rules

pub returns-in-Some-clause-tick : goal.returns-in-Some-clause-tick
returns-in-Some-clause-tick c = search rules

pub returns-in-None-clause-after : goal.returns-in-None-clause-after
returns-in-None-clause-after c = search rules

pub returns-in-Some-clause-after : goal.returns-in-Some-clause-after
returns-in-Some-clause-after c = search rules
