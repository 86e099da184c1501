-- The first events were run, and their replies tallied.
use Rattle.std.proofs.Common.{◌≡◌, length}
use Rattle.metric_kit_commands.proofs.PieceLaws.{TalliedSoFar}
use Rattle.metric_kit_commands.proofs.tally.tally_run.Given as goal

abbrev pub invariant-loop-piece : goal.invariant-loop-piece
invariant-loop-piece g l = record {
  so_far : TalliedSoFar g.T.Tally.tells g.B.Book.stands l.fn.tally l.tally l.fn.core.plan l.fn.core.start l.core l.fn.events l.rest;
  plan : l.core.plan ≡ l.fn.core.plan;
  start : l.core.start ≡ l.fn.core.start;
}

abbrev pub decreases-loop-piece : goal.decreases-loop-piece
decreases-loop-piece g l = length l.rest
