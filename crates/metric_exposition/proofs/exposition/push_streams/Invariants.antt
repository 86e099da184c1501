-- what is written so far
use Rattle.std.proofs.Common.{◌≡◌, ◌++◌, take}
use Rattle.std.specs.List.{flat_map}
use Rattle.metric_exposition.specs.Expositions.{reported_lines}
use Rattle.metric_exposition.proofs.exposition.push_streams.Given as goal

abbrev pub invariant-loop-points : goal.invariant-loop-points
invariant-loop-points l =
    l.out.items
    ≡ l.fn.out.items
    ++ flat_map (reported_lines l.source.dialect l.source.meter.now l.source.keys.now l.streams l.source.start)
    (take l.points-index l.reported)
