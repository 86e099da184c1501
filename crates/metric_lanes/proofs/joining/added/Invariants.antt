-- the buckets so far are the first of all
use Rattle.std.proofs.Common.{◌≡◌, take}
use Rattle.metric_lanes.specs.Joined.{added}
use Rattle.metric_lanes.proofs.joining.added.Given as goal

abbrev pub invariant-loop-i : goal.invariant-loop-i
invariant-loop-i l = l.counts ≡ take l.i (added l.a l.b)
