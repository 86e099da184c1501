-- the points of the tables so far
use Rattle.std.proofs.Common.{[], take}
use Rattle.metric_marked.specs.Marks.{AddsAllPoints}
use Rattle.metric_marked.proofs.tables.points_of.Given as goal

abbrev pub invariant-loop-stream : goal.invariant-loop-stream
invariant-loop-stream l = AddsAllPoints [] l.all.items (take l.stream-index l.tables) l.reader
