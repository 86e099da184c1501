-- what is written so far
use Rattle.std.proofs.Common.{◌≡◌, ◌++◌, take}
use Rattle.std.specs.List.{flat_map}
use Rattle.metric_lines.specs.Batches.{stream_text}
use Rattle.metric_lines.proofs.batch.push_streams.Given as goal

abbrev pub invariant-loop-points : goal.invariant-loop-points
invariant-loop-points l =
    l.out.items ≡ l.fn.out.items ++ flat_map (stream_text l.catalogue l.config l.streams l.batch) (take l.points-index l.batch.streams)
