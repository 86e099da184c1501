-- a slot for each instrument so far
use Rattle.std.proofs.Common.{◌≡◌, length, vec_len}
use Rattle.metric_provider.specs.NewSlots.{AreNewSlots}
use Rattle.metric_provider.proofs.starting.new_slots.Given as goal

abbrev pub invariant-loop-instrument : goal.invariant-loop-instrument
invariant-loop-instrument g l = record {
  count : vec_len l.slots ≡ l.instrument;
  long : length l.slots.items ≡ l.instrument;
  each : AreNewSlots g.B.Book.stands l.plan.facts.instruments l.start l.slots.items;
}
