-- What is written and what is left give all, and each part of the sum is a u64.
use Rattle.std.proofs.Common.{◌≡◌, ◌≤◌, ◌*◌, ◌^◌, ◌++◌, drop}
use Rattle.std.specs.List.{flat_map}
use Rattle.metric_exposition.specs.Samples.{line_after, buckets, buckets_from}
use Rattle.metric_exposition.proofs.histogram.push_buckets.Given as goal

abbrev pub invariant-loop-count : goal.invariant-loop-count
invariant-loop-count l = record {
  left : l.out.items
      ++ flat_map (line_after l.head)
      (buckets_from l.total l.boundaries (drop l.count-index l.counts))
      ≡ l.fn.out.items
      ++ flat_map (line_after l.head) (buckets l.fn.boundaries l.counts);
  most : l.total ≤ 2 ^ 64 * l.count-index;
}
