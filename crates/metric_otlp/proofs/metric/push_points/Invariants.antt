-- what is written so far
use Rattle.std.proofs.Common.{◌≡◌, ◌++◌, take}
use Rattle.std.specs.List.{flat_map}
use Rattle.metric_otlp.specs.Points.{point_field}
use Rattle.metric_otlp.proofs.metric.push_points.Given as goal

abbrev pub invariant-loop-point : goal.invariant-loop-point
invariant-loop-point l = l.out.items ≡ l.fn.out.items
    ++ flat_map
    (point_field l.common.series.keys.now l.common.series.kept.now l.common.bounds.now l.common.batch.now)
    (take l.point-index l.points)
