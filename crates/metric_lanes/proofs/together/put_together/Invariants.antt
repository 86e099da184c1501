-- the points so far, with those that are left, are all
use Rattle.std.proofs.Common.{List, ◌++◌, ◌+◌, length}
use Rattle.metric_history.specs.declared.batch.Point.{Point}
use Rattle.metric_lanes.specs.Merging.{Merges}
use Rattle.metric_lanes.specs.Together.{CanJoin}
use Rattle.metric_lanes.proofs.together.put_together.Given as goal

abbrev pub invariant-loop-left : goal.invariant-loop-left
invariant-loop-left l = record {
  can : CanJoin l.left l.right;
  so_far : (rest : List Point) → Merges l.left l.right rest → Merges l.a l.b (l.all ++ rest);
}

abbrev pub decreases-loop-left : goal.decreases-loop-left
decreases-loop-left l = length l.left + length l.right
