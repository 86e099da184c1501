-- a collection, handed on, tried again and flushed
use Rattle.metric_periodic.proofs.outlet.make_turn.Goals as goal

pub returns : goal.returns
returns g c = record {
  mid = c.collect-batches.new.self;
  batches = c.collect-batches.result.0.items;
  uncollected = c.collect-batches.result.1;
  collected = rw (← c.moment.ensures) c.collect-batches.ensures;
  between = c.hand_on.new.self;
  handed = rw (c.plan-plan.ensures, c.count_refusal.ensures, c.is_some.ensures, c.deref.ensures.value) at c.hand_on.ensures;
  noted = rw (c.has_failed_since.ensures, c.failed-failed.ensures, c.deref-2.ensures.value) at c.note.ensures;
  settled = c.retry_where.new.self;
  retried = rw (c.plan-plan.ensures, c.is_retried-is_due.ensures, c.deref-3.ensures.value) at c.retry_where.ensures;
  flushed = c.flush-counted.ensures.0;
}
