-- the recorder was told of those so far, for which the slot stands, and the slot has the facts that it had
use Rattle.std.proofs.Common.{◌≡◌, take}
use Rattle.metric_provider.specs.Gains.{GainsAll}
use Rattle.metric_seat.specs.KeyRecordings.{told_each}
use Rattle.metric_provider.proofs.held.record_each.Given as goal

abbrev pub invariant-loop-place : goal.invariant-loop-place
invariant-loop-place g l = record {
  told : l.told ≡ told_each l.fn.told l.facts.lo (take l.place l.all);
  facts : l.slot.facts ≡ l.fn.slot.facts;
  gained : GainsAll g.B.Book.stands l.fn.slot l.slot l.recorder (take l.place l.all);
}
