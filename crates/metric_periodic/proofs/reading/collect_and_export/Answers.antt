-- the collection was handed on, what is kept tried again, and then the exporter was flushed
use Rattle.metric_periodic.proofs.reading.collect_and_export.Goals as goal

pub returns-clause-collected : goal.returns-clause-collected
returns-clause-collected g c = record {
  collected = c.collect_at-collected.result;
  collects_at = rw (← c.moment.ensures) c.collect_at-collected.ensures;
  exported = record {
    between = c.hand_on_collected.new.self;
    settled = c.retry_where.new.self;
    exported = rw (c.plan.ensures) at c.hand_on_collected.ensures;
    retried = rw (← c.is_retried-is_due.ensures) (rw (c.plan-2.ensures) at c.retry_where.ensures);
    flushed = c.flush-counted.ensures.0;
  };
}
