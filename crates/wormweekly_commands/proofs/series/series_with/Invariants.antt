-- those of the streams so far
use Rattle.std.proofs.Common.{◌≡◌, map, take}
use Rattle.wormweekly_commands.specs.Series.{series_of}
use Rattle.wormweekly_commands.proofs.series.series_with.Given as goal

abbrev pub invariant-loop-stream : goal.invariant-loop-stream
invariant-loop-stream l = l.series ≡ map (series_of l.catalogue l.totals) (take l.stream-index l.streams)
