-- a batch is of the cell's recordings, and so within the bounds
use Rattle.metric_slot.proofs.SlotLaws.{batch_continues, batch_journal, batch_time, batch_within}
use Rattle.metric_slot.proofs.slot.Slot.collect.Goals as goal

pub returns-clause-within : goal.returns-clause-within
returns-clause-within g c =
    let own = c.is_own_reader.ensures.0 c.if-not-is_own_reader.false in
    batch_within g.B.Book.stands c.self.inside.cell c.args.facts.now c.args.reader c.args.now c.in_ok-batch.batch c.journals_are_bounded.ensures.reports
    c.self.invariant.safe c.facts.ensures.kept own.facts c.in_ok-batch.ensures.batch

pub returns-clause-journal : goal.returns-clause-journal
returns-clause-journal g c =
    let own = c.is_own_reader.ensures.0 c.if-not-is_own_reader.false in
    batch_journal g.B.Book.stands c.self.inside.cell c.args.facts.now c.args.start c.args.reader c.args.seen.now c.args.now c.in_ok-batch.batch
    c.facts.ensures.kept own c.in_ok-batch.ensures.batch

pub returns-clause-time : goal.returns-clause-time
returns-clause-time g c =
    let own = c.is_own_reader.ensures.0 c.if-not-is_own_reader.false in
    batch_time g.B.Book.stands c.self.inside.cell c.args.facts.now c.args.start c.args.reader c.args.seen.now c.args.now c.in_ok-batch.batch
    c.facts.ensures.kept own c.in_ok-batch.ensures.batch

pub returns-clause-continues : goal.returns-clause-continues
returns-clause-continues g c =
    let own = c.is_own_reader.ensures.0 c.if-not-is_own_reader.false in
    batch_continues g.B.Book.stands c.self.inside.cell c.args.facts.now c.args.start c.args.reader c.args.seen.now c.args.now c.in_ok-batch.batch
    c.facts.ensures.kept own c.in_ok-batch.ensures.batch
