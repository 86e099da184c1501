use Rattle.std.proofs.Common.{arith}
use Rattle.metric_exposition.specs.Samples.{line_after}
use Rattle.metric_exposition.proofs.BucketLaws.{all_told}
use Rattle.metric_exposition.proofs.histogram.push_buckets.Goals as goal

pub returns : goal.returns
returns c =
    all_told (line_after c.args.head.now) c.loop-count.out.items _
    c.loop-count.total c.loop-count.boundaries.now c.args.counts.now c.loop-count.count-index (omega arith) c.loop-count.invariant.left
