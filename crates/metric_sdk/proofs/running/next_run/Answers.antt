-- the outlets begin the next run, and the rest is handed on
use Rattle.std.proofs.Common.{◌∙◌, refl}
use Rattle.metric_sdk.proofs.running.next_run.Goals as goal

pub returns-then-are_exported-clause-next : goal.returns-then-are_exported-clause-next
returns-then-are_exported-clause-next g c = (
  rw c.from_parts.ensures (record {
    counted = rw c.deref.ensures.value at (c.are_counted-is_counted.ensures.counted c.if-is_counted.true);
    left = c.begin_each-are_seated.new.seats.items;
    outlets = rw c.if-are_seated.true at c.begin_each-are_seated.ensures;
    runs_are = c.next-given.ensures.given ∙ c.next-given.ensures.number;
    provider_is = refl;
  }),
  (refl, refl),
)
