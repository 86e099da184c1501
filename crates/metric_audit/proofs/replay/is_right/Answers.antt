-- a batch is right where it is headed so, the recordings that it adds were taken, and its points were compared
use Rattle.std.proofs.Common.{subst}
use Rattle.std.specs.Prelude.{slice_range}
use Rattle.metric_audit.specs.Replays.{TakesWhereIt}
use Rattle.metric_audit.proofs.ReplayLaws.{judged-impossible, told-result}
use Rattle.metric_audit.proofs.replay.is_right.Goals as goal

pub returns-then-not-branch : goal.returns-then-not-branch
returns-then-not-branch g c =
    let run = c.args.run.now in
    judged-impossible (g.B.Book.stands c.args.book.now) (g.B.Book.stands c.take_each.new.book) c.args.own.now run.instrument run.start run.entries.now c.args.last.mark c.args.last.time
    c.args.batch.now c.requires.own c.requires.replayed
    (subst (TakesWhereIt (g.B.Book.stands c.args.book.now) (g.B.Book.stands c.take_each.new.book) c.args.own.now (slice_range run.entries.now c.args.last.mark c.args.batch.now.mark))
    c.if-not-branch.true c.in_ok-take_each.ensures)

pub returns : goal.returns
returns g c =
    let run = c.args.run.now in
    told-result (g.B.Book.stands c.args.book.now) (g.B.Book.stands c.take_each.new.book) (g.B.Book.stands c.reports.new.book) c.args.own.now run.instrument run.start run.entries.now
    c.args.last.mark c.args.last.time c.args.batch.now c.as_slice.result.now c.reports.result c.as_slice.ensures c.requires.own c.if-not-is_headed.ensures c.requires.replayed
    (subst (TakesWhereIt (g.B.Book.stands c.args.book.now) (g.B.Book.stands c.take_each.new.book) c.args.own.now (slice_range run.entries.now c.args.last.mark c.args.batch.now.mark))
    c.if-not-branch.false c.in_ok-take_each.ensures)
    c.reports.ensures.reports c.reports.ensures.moves
