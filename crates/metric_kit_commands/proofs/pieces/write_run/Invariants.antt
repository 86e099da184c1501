-- The first events were run and their replies written; the sink has not failed.
use Rattle.std.proofs.Common.{◌≡◌, length}
use Rattle.metric_kit_commands.proofs.PieceLaws.{RunSoFar}
use Rattle.metric_kit_commands.proofs.pieces.write_run.Given as goal

abbrev pub invariant-loop-piece : goal.invariant-loop-piece
invariant-loop-piece g l = record {
  so_far : RunSoFar (g.F.ReplyForm.text l.fn.form) g.B.Book.stands (g.W.Sink.contents l.fn.sink) (g.W.Sink.contents l.sink) l.fn.core.plan l.fn.core.start l.core l.fn.events l.rest;
  plan : l.core.plan ≡ l.fn.core.plan;
  start : l.core.start ≡ l.fn.core.start;
  failures : g.W.Sink.failures l.sink ≡ g.W.Sink.failures l.fn.sink;
}

abbrev pub decreases-loop-piece : goal.decreases-loop-piece
decreases-loop-piece g l = length l.rest
