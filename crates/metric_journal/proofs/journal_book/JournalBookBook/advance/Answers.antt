-- one mark at the end
use Rattle.std.proofs.Common.{rules}
use Rattle.metric_journal.proofs.JournalLaws.{journal_moves}
use Rattle.metric_journal.proofs.journal_book.JournalBookBook.advance.Goals as goal

pub returns : goal.returns
returns c = journal_moves c.args.self.now _ c.args.reader (search rules)
