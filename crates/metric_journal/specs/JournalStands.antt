-- For which journals a book that keeps the list stands.
use Rattle.std.specs.Prelude.{◌≡◌, ℕ, true, List, [], length}
use Rattle.metric_history.specs.declared.entry.Entry.{Entry}
use Rattle.metric_facts.specs.declared.facts.Facts.{Facts}
use Rattle.metric_history.specs.Journals.{no_marks}
use Rattle.metric_journal.specs.Ranges.{windows_in_range}

-- the facts of the instrument, its accepted recordings, oldest first, and each reader's mark
pub record JournalValue : Type 0 where
  pub facts : Facts
  pub entries : List Entry
  pub marks : List ℕ

-- that of an instrument without recordings
abbrev pub empty_journal : Facts → JournalValue
empty_journal facts = record { facts = facts; entries = []; marks = no_marks facts }

-- the list is the journal, each reader has its mark, and each stream's window stays in range
pub record StandsForList (book : JournalValue) (facts : Facts) (journal : List Entry)
    (marks : List ℕ) : Type 0 where
  pub same_facts : book.facts ≡ facts
  pub same_entries : book.entries ≡ journal
  pub same_marks : book.marks ≡ marks
  pub one_mark_each : length marks ≡ length facts.delta
  pub in_range : windows_in_range facts journal marks facts.streams ≡ true
