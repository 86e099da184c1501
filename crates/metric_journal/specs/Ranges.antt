-- Where each series of an instrument stays in range.
use Rattle.std.specs.Prelude.{ℕ, Bool, not, ◌||◌, List, slice_index}
use Rattle.std.specs.List.{list_all}
use Rattle.metric_history.specs.declared.entry.Entry.{Entry}
use Rattle.metric_facts.specs.declared.facts.Facts.{Facts}
use Rattle.metric_facts.specs.declared.facts.NumberedStream.{NumberedStream}
use Rattle.metric_facts.specs.Facts.{is_delta, is_of_reader}
use Rattle.metric_history.specs.Ranges.{stays_in_range}
use Rattle.metric_history.specs.Windows.{window}

-- whether the window of a reader stays in range for a stream, where it is the reader's
abbrev pub stream_in_range : ℕ → List Entry → NumberedStream → Bool
stream_in_range reader entries s = not (is_of_reader reader s) || stays_in_range s.stream entries

abbrev pub reader_in_range : ℕ → List Entry → List NumberedStream → Bool
reader_in_range reader entries streams = list_all (stream_in_range reader entries) streams

-- what the next collection by a stream's reader covers
abbrev pub stream_window : Facts → List Entry → List ℕ → NumberedStream → List Entry
stream_window facts journal marks s =
    window (is_delta facts s.stream.reader) (slice_index marks s.stream.reader) journal

-- whether the window of each of these streams stays in range
abbrev pub windows_in_range : Facts → List Entry → List ℕ → List NumberedStream → Bool
windows_in_range facts journal marks streams =
    list_all
    (λ (s : NumberedStream). stays_in_range s.stream (stream_window facts journal marks s)) streams
