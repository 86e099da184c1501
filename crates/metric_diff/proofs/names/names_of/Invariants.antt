-- the names of the streams so far
use Rattle.std.proofs.Common.{◌≡◌, map, take}
use Rattle.metric_diff.specs.Known.{stream_name}
use Rattle.metric_diff.proofs.names.names_of.Given as goal

abbrev pub invariant-loop-stream : goal.invariant-loop-stream
invariant-loop-stream l = l.names ≡ map (stream_name l.readers l.meters l.catalogue) (take l.stream-index l.streams)
