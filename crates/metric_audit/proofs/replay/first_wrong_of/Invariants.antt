-- the reader's batches so far are right, and the book has the recordings that they count
use Rattle.metric_audit.specs.Replays.{IsReplayed}
use Rattle.metric_audit.proofs.BatchLaws.{RightSoFar}
use Rattle.metric_audit.proofs.replay.first_wrong_of.Given as goal

abbrev pub invariant-loop-at : goal.invariant-loop-at
invariant-loop-at g l = record {
  so_far : RightSoFar l.own l.run.instrument l.run.start l.run.entries.now l.batches l.reader l.at l.last.mark l.last.time;
  replayed : IsReplayed (g.B.Book.stands l.book) l.own l.reader l.run.entries.now l.last.mark;
}
