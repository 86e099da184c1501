-- a book of the instrument's facts
use Rattle.std.proofs.Common.{◌≡◌, ◌∙◌, ap}
use Rattle.std.proofs.lemmas.Result.{IfOk-weaker}
use Rattle.metric_journal.specs.JournalStands.{StandsForList, empty_journal}
use Rattle.metric_history.specs.Journals.{BeginsJournal}
use Rattle.metric_journal.proofs.JournalLaws.{journal_begins}
use Rattle.metric_journal.proofs.journal_book.JournalBookBook.new.Goals as goal

pub returns : goal.returns
returns c =
    let facts = c.args.facts.now in
    IfOk-weaker c.without_recordings.result (λ book. book ≡ empty_journal c.in_ok-facts.facts) (λ book. BeginsJournal (StandsForList book) facts)
    (λ book made. journal_begins facts book (made ∙ ap empty_journal c.in_ok-facts.ensures)) c.without_recordings.ensures
