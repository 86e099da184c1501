-- what is written so far
use Rattle.std.proofs.Common.{◌≡◌, ◌++◌, take}
use Rattle.std.specs.List.{flat_map}
use Rattle.metric_lines.specs.Points.{point_text}
use Rattle.metric_lines.proofs.batch.push_points.Given as goal

abbrev pub invariant-loop-point : goal.invariant-loop-point
invariant-loop-point l =
    l.out.items ≡ l.fn.out.items ++ flat_map (point_text l.keys l.kept l.batch.start l.batch.time) (take l.point-index l.points)
