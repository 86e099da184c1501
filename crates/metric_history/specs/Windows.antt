-- Which recordings a reader's next collection covers, and which recording still fits there.
use Rattle.std.specs.Prelude.{ℕ, Bool, List, [], ◌∷◌, ◌++◌, drop, if◌then◌else◌}
use Rattle.std.specs.List.{list_all}
use Rattle.metric_aggregate.specs.Range.{in_range}
use Rattle.metric_history.specs.declared.entry.Entry.{Entry}
use Rattle.metric_views.specs.declared.stream.Stream.{Stream}
use Rattle.metric_facts.specs.declared.facts.FactsFields.{FactsFields as Facts}
use Rattle.metric_facts.specs.declared.facts.NumberedStream.{NumberedStream}
use Rattle.metric_facts.specs.Facts.{is_delta}
use Rattle.metric_history.specs.Aggregations.{stream_aggregation}
use Rattle.metric_history.specs.Series.{rows, place_of}
use Rattle.metric_history.specs.Points.{values}

-- # window (data model, temporality)
-- Delta: the accepted recordings after the reader's mark; cumulative: all.
abbrev pub window : Bool → ℕ → List Entry → List Entry
window delta mark accepted = if delta then drop mark accepted else accepted

-- # recording that fits (profile) [fits_stream, fits_all]
-- The series into which it falls, of each stream of the instrument, stays in range with it.
abbrev pub fits_stream : Stream → List Entry → Entry → Bool
fits_stream s before entry =
    let longer = before ++ entry ∷ [] in
    in_range (stream_aggregation s) (values (rows s longer (place_of s longer entry)))

-- whether a recording fits each stream of the instrument, where each reader has its mark
abbrev pub fits_all : Facts → (ℕ → ℕ) → List Entry → Entry → Bool
fits_all facts mark accepted entry =
    list_all (λ (s : NumberedStream).
    let reader = s.stream.reader in
    fits_stream s.stream
    (window (is_delta facts reader) (mark reader) accepted) entry) facts.streams
