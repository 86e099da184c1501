-- the recording fits the streams so far
use Rattle.std.proofs.Common.{◌≡◌, true, take}
use Rattle.std.specs.Prelude.{slice_index}
use Rattle.std.specs.List.{list_all}
use Rattle.metric_facts.specs.declared.facts.NumberedStream.{NumberedStream}
use Rattle.metric_facts.specs.Facts.{is_delta}
use Rattle.metric_history.specs.Windows.{window, fits_stream}
use Rattle.metric_journal.proofs.journal_book.JournalBook.fits.Given as goal

abbrev pub invariant-loop-numbered : goal.invariant-loop-numbered
invariant-loop-numbered l =
    list_all (λ (s : NumberedStream). fits_stream s.stream (window (is_delta l.self.facts s.stream.reader) (slice_index l.self.marks s.stream.reader) l.self.entries) l.entry) (take l.numbered-index l.streams) ≡ true
