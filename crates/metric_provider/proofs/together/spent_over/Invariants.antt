-- those so far
use Rattle.std.proofs.Common.{◌≡◌, ◌≤◌, ◌*◌, ◌^◌, take}
use Rattle.metric_provider.specs.Lanes.{spent_over}
use Rattle.metric_provider.proofs.together.spent_over.Given as goal

abbrev pub invariant-loop-slot : goal.invariant-loop-slot
invariant-loop-slot g l = record {
  sum : l.spent ≡ spent_over (take l.slot-index l.lanes) l.recorder;
  bound : l.spent ≤ l.slot-index * 2 ^ 64;
}
