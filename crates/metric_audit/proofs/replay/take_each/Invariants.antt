-- the recordings so far were taken
use Rattle.metric_audit.proofs.ReplayLaws.{HasTaken}
use Rattle.metric_audit.proofs.replay.take_each.Given as goal

abbrev pub invariant-loop-entry : goal.invariant-loop-entry
invariant-loop-entry g l = HasTaken (g.B.Book.stands l.fn.book) (g.B.Book.stands l.book) l.facts l.entries l.entry-index
