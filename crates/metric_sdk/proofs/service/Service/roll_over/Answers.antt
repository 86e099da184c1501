-- the last turns, what the provider went over into, and the beginning
use Rattle.metric_sdk.proofs.ServiceLaws.{err_with, ok_or_none, ok_with, rolled_over}
use Rattle.metric_sdk.proofs.service.Service.roll_over.Goals as goal

pub returns-in-Ok-roll_over-clause-rolled : goal.returns-in-Ok-roll_over-clause-rolled
returns-in-Ok-roll_over-clause-rolled g c =
    rw (← c.self.view_is)
    (ok_with _ _ _ c.next_run.result
    (λ next told exported. (
      c.in-Ok.ends.items,
      (
        rolled_over _ _ _ _ _ _ _ _ _ _ _ _ _ _ _ _ c.in-Ok.ensures.ended (rw c.deref.ensures.value at c.if-not-are_collected.ensures)
            c.in-Ok-roll_over.ensures.totals (rw c.coming.ensures at c.in-Ok-roll_over.ensures.other_run)
            (rw c.coming.ensures at c.in-Ok-roll_over.ensures.next) (rw c.coming.ensures at c.in-Ok-roll_over.ensures.next_recorders)
            (rw c.coming.ensures at c.in-Ok-roll_over.ensures.next_collectors) told.0 told.1.0 told.1.1,
        exported,
      ),
    ))
    c.next_run.ensures.next c.next_run.ensures.exported)

pub returns-in-Ok-roll_over-clause-left : goal.returns-in-Ok-roll_over-clause-left
returns-in-Ok-roll_over-clause-left g c =
    rw (← c.self.view_is)
    (err_with _ _ _ c.next_run.result
    (λ left told ends. ok_or_none _ _ _ left.done
    (λ next begun. rolled_over _ _ _ _ _ left.ends.items left.is_counted left.are_seated _ _ _ _ _ next.service next.recorders.items next.totals (rw ends c.in-Ok.ensures.ended)
    (rw ends (rw c.deref.ensures.value at c.if-not-are_collected.ensures))
    c.in-Ok-roll_over.ensures.totals (rw c.coming.ensures at c.in-Ok-roll_over.ensures.other_run)
    (rw c.coming.ensures at c.in-Ok-roll_over.ensures.next) (rw c.coming.ensures at c.in-Ok-roll_over.ensures.next_recorders)
    (rw c.coming.ensures at c.in-Ok-roll_over.ensures.next_collectors) begun.0 begun.1.0 begun.1.1) told)
    c.next_run.ensures.left c.next_run.ensures.ends)
