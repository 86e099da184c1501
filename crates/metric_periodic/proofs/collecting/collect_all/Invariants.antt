-- each instrument so far was collected, and there is room for the others
use Rattle.std.proofs.Common.{◌≤◌, length, vec_capacity, vec_len}
use Rattle.metric_periodic.specs.Each.{CollectsFirst}
use Rattle.metric_periodic.proofs.collecting.collect_all.Given as goal

abbrev pub invariant-loop-instrument : goal.invariant-loop-instrument
invariant-loop-instrument g l = record {
  first : CollectsFirst l.provider l.now l.instrument l.fn.seat l.seat l.batches.items l.refused.items;
  batches : vec_len l.batches ≤ l.instrument;
  refused : vec_len l.refused ≤ l.instrument;
  batches_room : length l.provider.plan.facts.instruments ≤ vec_capacity l.batches;
  refused_room : length l.provider.plan.facts.instruments ≤ vec_capacity l.refused;
}
