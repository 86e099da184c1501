-- a last collection, handed on, tried again and flushed
use Rattle.std.proofs.Common.{refl}
use Rattle.metric_periodic.proofs.Calling.{answer_of_fault}
use Rattle.metric_periodic.proofs.outlet.Outlet.end_run.Goals as goal

pub returns : goal.returns
returns g c = record {
  ended =
      rw (← c.self.view_is) (record {
        reader = rw (← c.self.view_is) at c.number-reader.ensures;
        mid = c.collect-batches.new.self;
        batches = c.collect-batches.result.0.items;
        collected = c.collect-batches.ensures;
        between = c.hand_on_in_order-handed.new.self;
        taken = c.hand_on_in_order-handed.result.taken;
        refused = c.hand_on_in_order-handed.result.refused;
        handed = rw (c.plan-plan.ensures, c.count_refusal.ensures, c.is_some.ensures, c.deref.ensures.value) at c.hand_on_in_order-handed.ensures.handed;
        noted = rw (c.is_some-2.ensures, c.deref-2.ensures.value) at c.note.ensures;
        left = c.left_of-unexported.ensures;
        settled = c.retry.new.self;
        retried = rw (c.err-unsent.ensures.value, answer_of_fault c.retry.result) (rw (c.plan-plan.ensures) at c.retry.ensures);
        flushed = rw (c.err-unflushed.ensures.value, answer_of_fault c.flush.result) c.flush.ensures;
        period = refl;
        due = refl;
      });
}
