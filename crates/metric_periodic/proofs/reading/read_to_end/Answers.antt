-- the last collection comes behind the turns, and then the exporter is shut down
use Rattle.metric_periodic.proofs.reading.read_to_end.Goals as goal

pub returns-clause-run : goal.returns-clause-run
returns-clause-run g c = record {
  last = c.make_turns-last.result;
  seat = c.make_turns-last.new.reading.seat;
  after_turns = c.make_turns-last.new.reading.exports;
  turns = c.make_turns-last.ensures.turns;
  is_stopped = c.stop_of.ensures;
  collected = c.collect_last_at-collected.result.0;
  collects_at = rw (← c.moment.ensures) c.collect_last_at-collected.ensures;
  before_retry = c.hand_on_collected.new.self;
  exported = rw (c.plan.ensures) at c.hand_on_collected.ensures;
  before_shutdown = c.retry-told.new.self;
  retried = (rw (c.plan-2.ensures) at c.retry-told.ensures).0;
  shut_down = c.shut_down.ensures;
}
