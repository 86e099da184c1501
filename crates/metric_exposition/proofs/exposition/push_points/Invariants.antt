-- what is written so far
use Rattle.std.proofs.Common.{◌≡◌, ◌++◌, take}
use Rattle.std.specs.List.{flat_map}
use Rattle.metric_exposition.specs.Expositions.{point_lines}
use Rattle.metric_exposition.proofs.exposition.push_points.Given as goal

abbrev pub invariant-loop-point : goal.invariant-loop-point
invariant-loop-point l =
    l.out.items
    ≡ l.fn.out.items
    ++ flat_map (point_lines l.source.dialect l.source.meter.now l.source.keys.now l.stream l.name l.source.start)
    (take l.point-index l.points)
