-- the next batch
use Rattle.std.proofs.Common.{Bool, subst}
use Rattle.metric_audit.specs.Replays.{GoesOn}
use Rattle.metric_audit.proofs.BatchLaws.{right-next}
use Rattle.metric_audit.proofs.replay.first_wrong_of.Goals as goal

pub loop-at-preserved : goal.loop-at-preserved
loop-at-preserved g c =
    let run = c.args.run.now in
    let on = subst
    (λ (v : Bool). GoesOn (g.B.Book.stands c.goes_on.new.book) c.args.own.now run.instrument run.start run.entries.now c.args.reader c.loop-at.last.mark c.loop-at.last.time
    c.index-batches-at.result v c.goes_on.new.last.mark c.goes_on.new.last.time) c.if-not-branch.false c.in_ok-goes_on.ensures in
    record {
      so_far = right-next (g.B.Book.stands c.goes_on.new.book) c.args.own.now run.instrument run.start run.entries.now c.args.batches.now c.args.reader c.loop-at.at c.loop-at.last.mark
          c.loop-at.last.time c.goes_on.new.last.mark c.goes_on.new.last.time c.index-batches-at.result c.requires.reader c.loop-at-test.true c.index-batches-at.is c.loop-at.invariant.so_far on;
      replayed = on.1;
    }
