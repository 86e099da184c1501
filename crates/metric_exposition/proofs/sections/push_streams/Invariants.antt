-- what is put so far
use Rattle.std.proofs.Common.{◌≡◌, ◌++◌, take}
use Rattle.std.specs.List.{flat_map}
use Rattle.metric_exposition.specs.Sections.{reported_sections}
use Rattle.metric_exposition.proofs.sections.push_streams.Given as goal

abbrev pub invariant-loop-points : goal.invariant-loop-points
invariant-loop-points l =
    l.sections.items
    ≡ l.fn.sections.items
    ++ flat_map (reported_sections l.source.dialect l.source.meter.now l.source.keys.now l.streams l.source.start)
    (take l.points-index l.reported)
