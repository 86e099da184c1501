-- The lines of a batch.
use Rattle.std.specs.Prelude.{ℕ, ℤ, ◌==◌, if◌then◌else◌, List, [], ◌++◌, length, slice_get}
use Rattle.std.specs.List.{flat_map}
use Rattle.std.specs.Option.{option_map_or}
use Rattle.metric_contents.specs.declared.contents.Contents.{Contents}
use Rattle.metric_contents.specs.declared.contents.Instrument.{Instrument}
use Rattle.metric_contents.specs.declared.contents.Key.{Key}
use Rattle.metric_contents.specs.declared.contents.Meter.{Meter}
use Rattle.metric_views.specs.declared.stream.Stream.{Stream}
use Rattle.metric_views.specs.declared.stream.StreamAggregation.{StreamAggregation}
use Rattle.metric_views.specs.declared.stream.StreamAggregation.TheVariants.{Sum, LastValue, Histogram}
use Rattle.metric_history.specs.declared.batch.Batch.{Batch}
use Rattle.metric_history.specs.declared.batch.Point.{Point}
use Rattle.metric_history.specs.declared.batch.StreamPoints.{StreamPoints}
use Rattle.metric_family.specs.Families.{family, type_of}
use Rattle.metric_family.specs.Labels.{point_labels}
use Rattle.metric_exposition.specs.Dialects.{created_at}
use Rattle.metric_exposition.specs.Headers.{header}
use Rattle.metric_exposition.specs.LabelTexts.{labels_text}
use Rattle.metric_exposition.specs.Samples.{value_lines}
use Rattle.metric_exposition.specs.declared.dialect.Dialect.{Dialect}

-- the boundaries of a histogram, none of another stream
abbrev pub boundaries_of : StreamAggregation → List ℤ
boundaries_of Sum = []
boundaries_of LastValue = []
boundaries_of (Histogram boundaries) = boundaries

-- the lines of a point of a stream, whose family has this name
abbrev pub point_lines : Dialect → Meter → List Key → Stream → List ℕ → ℕ → Point → List ℕ
point_lines dialect meter keys stream name start point =
    value_lines dialect (type_of stream) name
    (labels_text (point_labels meter keys stream.kept point.set))
    (created_at dialect start) (boundaries_of stream.aggregation) point.value

-- all lines of a stream, whose family has this name
abbrev pub named_lines
    : Dialect → Meter → List Key → ℕ → List Point → List ℕ → Stream → List ℕ
named_lines dialect meter keys start points name stream =
    header dialect name stream
    ++ flat_map (point_lines dialect meter keys stream name start) points

abbrev pub stream_lines : Dialect → Meter → List Key → ℕ → List Point → Stream → List ℕ
stream_lines dialect meter keys start points stream =
    named_lines dialect meter keys start points (family stream) stream

-- of some points of a batch; nothing where there are none, and where their number names no stream
abbrev pub reported_lines
    : Dialect → Meter → List Key → List Stream → ℕ → StreamPoints → List ℕ
reported_lines dialect meter keys streams start s =
    if length s.points == 0 then [] else
    option_map_or (stream_lines dialect meter keys start s.points) (slice_get streams s.stream) []

-- the lines of a batch of an instrument
abbrev pub instrument_lines
    : Dialect → List Meter → List Stream → Batch → Instrument → List ℕ
instrument_lines dialect meters streams batch instrument =
    option_map_or
    (λ meter. flat_map (reported_lines dialect meter instrument.keys streams batch.start) batch.streams)
    (slice_get meters instrument.meter) []

-- # exposition of a batch (profile)
-- These lines of each stream that has points, in order.
unfoldable pub exposition : Dialect → Contents → List Stream → Batch → List ℕ
exposition dialect catalogue streams batch =
    option_map_or (instrument_lines dialect catalogue.meters streams batch)
    (slice_get catalogue.instruments batch.instrument) []
