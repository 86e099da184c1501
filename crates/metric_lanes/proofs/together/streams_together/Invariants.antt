-- the streams so far, with those that are left, are all
use Rattle.std.proofs.Common.{List, ◌++◌, length}
use Rattle.metric_history.specs.declared.batch.StreamPoints.{StreamPoints}
use Rattle.metric_lanes.specs.Together.{AreStreamsTogether, CanJoinStreams}
use Rattle.metric_lanes.proofs.together.streams_together.Given as goal

abbrev pub invariant-loop-left : goal.invariant-loop-left
invariant-loop-left l = record {
  can : CanJoinStreams l.left l.right;
  so_far : (rest : List StreamPoints) → AreStreamsTogether l.left l.right rest → AreStreamsTogether l.a l.b (l.all ++ rest);
}

abbrev pub decreases-loop-left : goal.decreases-loop-left
decreases-loop-left l = length l.left
