-- those so far
use Rattle.std.proofs.Common.{◌≡◌, ◌≤◌, ◌*◌, ◌^◌, take}
use Rattle.metric_provider.specs.Lanes.{count_over}
use Rattle.metric_provider.proofs.together.count_over.Given as goal

abbrev pub invariant-loop-slot : goal.invariant-loop-slot
invariant-loop-slot g l = record {
  sum : l.count ≡ count_over (take l.slot-index l.lanes);
  bound : l.count ≤ l.slot-index * 2 ^ 64;
}
