-- the last turns and what the provider came to
use Rattle.metric_sdk.proofs.ServiceLaws.{ended_so, ok_with}
use Rattle.metric_sdk.proofs.service.Service.end.Goals as goal

pub returns-in-Ok-finish_keeping-clause-ended : goal.returns-in-Ok-finish_keeping-clause-ended
returns-in-Ok-finish_keeping-clause-ended g c =
    rw (← c.self.view_is)
    (ok_with _ _ _ c.ended.result
    (λ ended told clean. (
      c.in-Ok.ends.items,
      (
        ended_so _ _ _ _ _ _ _ _ _ _ _ _ _ c.in-Ok.ensures.ended (rw c.deref.ensures.value at c.if-not-are_collected.ensures)
            c.in-Ok-finish_keeping.ensures.totals c.in-Ok-finish_keeping.ensures.plan told.1.1.1 told.0 told.1.0 told.1.1.0,
        clean,
      ),
    ))
    c.ended.ensures.ended c.ended.ensures.clean)
