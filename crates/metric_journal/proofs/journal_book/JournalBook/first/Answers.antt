use Rattle.std.proofs.Common.{rules}
use Rattle.metric_journal.proofs.journal_book.JournalBook.first.Goals as goal

pub returns-else-is_delta-clause-first : goal.returns-else-is_delta-clause-first
returns-else-is_delta-clause-first c = search rules
