use Rattle.std.proofs.Common.{◌≡◌}
use Rattle.metric_sheet.proofs.table.write_rows.Given as goal

abbrev pub invariant-loop-number : goal.invariant-loop-number
invariant-loop-number g l = g.W.Sink.failures l.sink ≡ g.W.Sink.failures l.initial.sink
