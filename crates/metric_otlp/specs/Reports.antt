-- What of batches is reported: for each meter the streams of its instruments that have points.
use Rattle.std.specs.Prelude.{◌==◌, ℕ, if◌then◌else◌, List, [], Option, Some, None, length, slice_get}
use Rattle.std.specs.List.{enumerate_from, filter_map, flat_map}
use Rattle.std.specs.Option.{option_map}
use Rattle.metric_text.specs.Reading.{◌>>=◌}
use Rattle.metric_contents.specs.declared.contents.Contents.{Contents}
use Rattle.metric_contents.specs.declared.contents.Instrument.{Instrument}
use Rattle.metric_contents.specs.declared.contents.Key.{Key}
use Rattle.metric_contents.specs.declared.contents.Meter.{Meter}
use Rattle.metric_views.specs.declared.stream.Stream.{Stream}
use Rattle.metric_history.specs.declared.batch.Batch.{Batch}
use Rattle.metric_history.specs.declared.batch.Point.{Point}
use Rattle.metric_history.specs.declared.batch.StreamPoints.{StreamPoints}

-- a stream with its points, the keys that its instrument declares, and the batch that it is of
pub record ReportedStream : Type 0 where
  pub keys : List Key
  pub batch : Batch
  pub stream : Stream
  pub points : List Point

-- the stream of some points, unless there are none or their number names no stream
abbrev pub reported_of : List Stream → List Key → Batch → StreamPoints → Option ReportedStream
reported_of streams keys batch s =
    if length s.points == 0 then None
    else option_map (λ stream. record { keys = keys; batch = batch; stream = stream; points = s.points })
    (slice_get streams s.stream)

-- the instrument of a batch, where it is of the meter of a number
unfoldable pub instrument_of : Contents → ℕ → Batch → Option Instrument
instrument_of catalogue meter batch = do
  instrument ← slice_get catalogue.instruments batch.instrument
  if instrument.meter == meter then Some instrument else None

-- the streams of a batch of an instrument that have points
abbrev pub reported_in : List Stream → Batch → Option Instrument → List ReportedStream
reported_in streams batch None = []
reported_in streams batch (Some instrument) =
    filter_map (reported_of streams instrument.keys batch) batch.streams

-- the same of a batch, where its instrument is of the meter of a number
abbrev pub reported_by_meter : Contents → List Stream → ℕ → Batch → List ReportedStream
reported_by_meter catalogue streams meter batch =
    reported_in streams batch (instrument_of catalogue meter batch)

-- what batches report of a meter
pub record Report : Type 0 where
  pub meter : Meter
  pub streams : List ReportedStream

-- what is reported of a meter, where that is anything
abbrev pub some_report : Meter → List ReportedStream → Option Report
some_report meter streams =
    if length streams == 0 then None else Some (record { meter = meter; streams = streams })

-- the report of a meter with its number
abbrev pub report_of : Contents → List Stream → List Batch → ℕ × Meter → Option Report
report_of catalogue streams batches numbered =
    some_report numbered.1 (flat_map (reported_by_meter catalogue streams numbered.0) batches)

-- # report of batches (profile) [reports_of]
-- For each meter of the catalogue the streams of its instruments that have points, in the order of
-- the batches; no meter without.
abbrev pub reports_of : Contents → List Stream → List Batch → List Report
reports_of catalogue streams batches =
    filter_map (report_of catalogue streams batches) (enumerate_from 0 catalogue.meters)
