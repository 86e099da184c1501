-- the copies so far are the first ones
use Rattle.std.proofs.Common.{◌≡◌, take}
use Rattle.metric_export.proofs.copies.copy_streams.Given as goal

abbrev pub invariant-loop-stream : goal.invariant-loop-stream
invariant-loop-stream l = l.copies ≡ take l.stream-index l.streams
