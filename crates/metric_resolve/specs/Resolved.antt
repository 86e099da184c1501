-- The streams that a config gives for a catalogue.
use Rattle.std.specs.Prelude.{ℕ, ◌<◌, Bool, true, false, List, [], length, Option, Some, None}
use Rattle.std.specs.Prelude.{option_and_then}
use Rattle.std.specs.List.{cons_option, filter_map, flat_map}
use Rattle.metric_contents.specs.declared.contents.Contents.{Contents}
use Rattle.metric_views.specs.declared.config.Config.{Config}
use Rattle.metric_views.specs.declared.stream.Fill.{Fill}
use Rattle.metric_views.specs.declared.stream.Fill.TheVariants.{Unfit, Dropped, Kept}
use Rattle.metric_views.specs.declared.stream.Stream.{Stream}
use Rattle.metric_views.specs.Streams.{fill_at}
use Rattle.metric_resolve.specs.Applying.{all_instruments, all_readers, views_for}

-- the stream that is kept
abbrev pub kept : Fill → Option Stream
kept Unfit = None
kept Dropped = None
kept (Kept stream) = Some stream

-- the stream that a view, or the default, gives of an instrument for a reader
unfoldable pub stream_at : Contents → Config → ℕ → ℕ → Option ℕ → Option Stream
stream_at contents config reader instrument view =
    option_and_then kept (fill_at contents config reader instrument view)

-- the streams of an instrument for a reader, by view
unfoldable pub streams_of_instrument : Contents → Config → ℕ → ℕ → List Stream
streams_of_instrument contents config reader instrument =
    filter_map (stream_at contents config reader instrument)
    (views_for contents config reader instrument)

-- the streams of a reader, by instrument
unfoldable pub streams_of_reader : Contents → Config → ℕ → List Stream
streams_of_reader contents config reader =
    flat_map (streams_of_instrument contents config reader) (all_instruments contents)

-- # streams of a config (SDK, View, stream configuration)
-- What those views, or the default, make of the instrument, without what is dropped, by reader,
-- instrument and view; a stream's number is its place.
unfoldable pub streams_of : Contents → Config → List Stream
streams_of contents config = flat_map (streams_of_reader contents config) (all_readers config)

-- what a fill adds to a list of streams
abbrev pub kept_of : Fill → List Stream
kept_of fill = cons_option (kept fill) []

-- the aggregation fits the kind
abbrev pub is_fit : Fill → Bool
is_fit Unfit = false
is_fit Dropped = true
is_fit (Kept stream) = true

-- The stream is of an instrument that is there.
abbrev pub IsKnown : Contents → Stream → Type 0
IsKnown contents stream = stream.instrument < length contents.instruments
