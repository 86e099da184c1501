-- each table so far stays in range
use Rattle.std.proofs.Common.{take}
use Rattle.metric_marked.specs.Stepwise.{AreInRange}
use Rattle.metric_marked.proofs.tables.all_fit.Given as goal

abbrev pub invariant-loop-stream : goal.invariant-loop-stream
invariant-loop-stream l = AreInRange l.entry (take l.stream-index l.tables)
