-- none is left
use Rattle.metric_lanes.proofs.MergingLaws.{streams_all}
use Rattle.metric_lanes.proofs.together.streams_together.Goals as goal

pub returns : goal.returns
returns c = streams_all c.args.a.now c.args.b.now c.loop-left.left.now c.loop-left.right.now c.loop-left.all c.loop-left.invariant.can c.loop-left.invariant.so_far c.in_default.len_below
