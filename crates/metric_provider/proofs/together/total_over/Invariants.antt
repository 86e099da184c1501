-- the sum so far, which is no further from 0 than so many recordings allow
use Rattle.std.proofs.Common.{◌≡◌, ◌*◌, ◌^◌, pos, ◌≤ℤ◌, take}
use Rattle.std.specs.Prelude.{neg_ℤ}
use Rattle.metric_provider.specs.Lanes.{count_over, total_over}
use Rattle.metric_provider.proofs.together.total_over.Given as goal

abbrev pub invariant-loop-slot : goal.invariant-loop-slot
invariant-loop-slot g l = record {
  sum : l.total ≡ total_over (take l.slot-index l.lanes);
  low : neg_ℤ (pos (2 ^ 63 * count_over (take l.slot-index l.lanes))) ≤ℤ l.total;
  high : l.total ≤ℤ pos (2 ^ 63 * count_over (take l.slot-index l.lanes));
}
