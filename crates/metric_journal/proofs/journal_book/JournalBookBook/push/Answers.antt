-- a recording that fits each stream
use Rattle.std.proofs.Common.{sym, rules}
use Rattle.metric_journal.proofs.JournalLaws.{journal_takes}
use Rattle.metric_journal.proofs.journal_book.JournalBookBook.push.Goals as goal

pub returns-in-Ok-clause-stands : goal.returns-in-Ok-clause-stands
returns-in-Ok-clause-stands c = journal_takes c.args.self.now c.put_last.new.self c.args.entry c.in-Ok.ensures.ok (sym c.if-not-fits.ensures)

pub returns-then-not-fits-clause-answer : goal.returns-then-not-fits-clause-answer
returns-then-not-fits-clause-answer c = search rules
