-- the sum so far, of which each part is a u64
use Rattle.std.proofs.Common.{◌≡◌, ◌≤◌, ◌*◌, ◌^◌, take}
use Rattle.metric_lines.specs.Batches.{point_count}
use Rattle.metric_lines.proofs.batch.point_count.Given as goal

abbrev pub invariant-loop-stream : goal.invariant-loop-stream
invariant-loop-stream l = record {
  sum : l.count ≡ point_count (take l.stream-index l.streams);
  most : l.count ≤ 2 ^ 64 * l.stream-index;
}
