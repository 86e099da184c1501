-- How a batch is written.
use Rattle.std.specs.Prelude.{ℕ, ◌==◌, if◌then◌else◌, List, [], ◌∷◌, ◌++◌, Option, Some, codes}
use Rattle.std.specs.Prelude.{length, sum_by, slice_get}
use Rattle.std.specs.List.{concat, flat_map}
use Rattle.std.specs.Option.{option_map_or}
use Rattle.metric_text.specs.Lists.{numbered}
use Rattle.metric_text.specs.Reading.{◌>>=◌}
use Rattle.metric_contents.specs.declared.contents.Contents.{Contents}
use Rattle.metric_contents.specs.declared.contents.Instrument.{Instrument}
use Rattle.metric_contents.specs.declared.contents.Meter.{Meter}
use Rattle.metric_views.specs.declared.config.Setup.{Setup}
use Rattle.metric_views.specs.declared.config.Reader.{Reader}
use Rattle.metric_views.specs.declared.stream.Stream.{Stream}
use Rattle.metric_history.specs.declared.batch.Batch.{Batch}
use Rattle.metric_history.specs.declared.batch.Point.{Point}
use Rattle.metric_history.specs.declared.batch.StreamPoints.{StreamPoints}
use Rattle.metric_lines.specs.Points.{point_text}
use Rattle.metric_lines.specs.Streams.{stream_line}

-- a stream of a plan with what its lines name: its reader, its instrument and that one's meter
pub record DescribedStream : Type 0 where
  pub stream : Stream
  pub reader : Reader
  pub instrument : Instrument
  pub meter : Meter

-- # stream that is described (profile)
-- The plan's stream of a number with its reader, its instrument and that one's meter.
unfoldable pub described_stream : Contents → Setup → List Stream → ℕ → Option DescribedStream
described_stream catalogue config streams number = do
  stream ← slice_get streams number
  reader ← slice_get config.readers stream.reader
  instrument ← slice_get catalogue.instruments stream.instrument
  meter ← slice_get catalogue.meters instrument.meter
  Some (record { stream = stream; reader = reader; instrument = instrument; meter = meter })

-- the number of points in all streams, also in those that are left out
abbrev pub point_count : List StreamPoints → ℕ
point_count streams = sum_by (λ (points : StreamPoints). length points.points) streams

-- the first line of a batch
unfoldable pub head_text : Batch → List ℕ
head_text batch = concat (
    numbered (codes "collected ") batch.time
    ∷ numbered (codes " ") (point_count batch.streams)
    ∷ codes "\n" ∷ [])

-- the lines of the points of a stream
abbrev pub points_text : Batch → List Point → DescribedStream → List ℕ
points_text batch points d =
    flat_map (point_text d.instrument.keys d.stream.kept batch.start batch.time) points

-- the line of a stream, and those of its points
abbrev pub described_text : Batch → List Point → DescribedStream → List ℕ
described_text batch points d =
    stream_line d.reader.name d.meter d.stream ++ points_text batch points d

-- the lines of a stream and its points. A stream without points has no line,
-- nor has one that is not described.
abbrev pub stream_text : Contents → Setup → List Stream → Batch → StreamPoints → List ℕ
stream_text catalogue config streams batch s =
    if length s.points == 0 then [] else
    option_map_or (described_text batch s.points)
    (described_stream catalogue config streams s.stream) []

-- the lines of all streams of a batch, in its own order
abbrev pub streams_text : Contents → Setup → List Stream → Batch → List ℕ
streams_text catalogue config streams batch =
    flat_map (stream_text catalogue config streams batch) batch.streams

-- # text of a batch (profile)
-- The line of the collection, then each stream that has points, with its points.
unfoldable pub batch_text : Contents → Setup → List Stream → Batch → List ℕ
batch_text catalogue config streams batch =
    head_text batch ++ streams_text catalogue config streams batch
