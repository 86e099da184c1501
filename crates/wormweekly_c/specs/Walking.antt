-- The last batch that a reader keeps, point by point.
use Rattle.std.specs.Prelude.{◌≡◌, ℕ, ℤ, pos, ◌-◌, ◌==◌, nat_lt, List, [], Option, Some, None, length}
use Rattle.std.specs.Prelude.{option_and_then, option_map, replicate, slice_get, unwrap_or}
use Rattle.std.specs.Prelude.{if◌then◌else◌}
use Rattle.metric_aggregate.specs.declared.point_value.PointValue.{PointValue}
use Rattle.metric_aggregate.specs.declared.point_value.PointValue.TheVariants.{Sum, Last, Buckets}
use Rattle.metric_contents.specs.declared.contents.Instrument.{Instrument}
use Rattle.metric_contents.specs.declared.contents.Key.{Key}
use Rattle.metric_contents.specs.declared.contents.Kind.{Kind}
use Rattle.metric_contents.specs.declared.contents.Kind.TheVariants.{Counter, UpDownCounter}
use Rattle.metric_contents.specs.declared.contents.Kind.TheVariants.{Histogram as HistogramKind}
use Rattle.metric_contents.specs.declared.contents.Kind.TheVariants.{Gauge}
use Rattle.metric_contents.specs.declared.contents.Meter.{Meter}
use Rattle.metric_history.specs.declared.batch.Batch.{Batch}
use Rattle.metric_history.specs.declared.batch.Point.{Point}
use Rattle.metric_history.specs.declared.batch.StreamPoints.{StreamPoints}
use Rattle.metric_lines.specs.Keys.{value_at}
use Rattle.metric_names.specs.declared.value.AttrValue.{AttrValue}
use Rattle.metric_names.specs.declared.value.AttrValue.TheVariants.{Text, Whole, Flag}
use Rattle.metric_views.specs.declared.choices.Temporality.{Temporality}
use Rattle.metric_views.specs.declared.choices.Temporality.TheVariants.{Delta, Cumulative}
use Rattle.metric_views.specs.declared.stream.Stream.{Stream}
use Rattle.metric_views.specs.declared.stream.StreamAggregation.{StreamAggregation}
use Rattle.metric_views.specs.declared.stream.StreamAggregation.TheVariants.{Sum as SumOf}
use Rattle.metric_views.specs.declared.stream.StreamAggregation.TheVariants.{LastValue, Histogram}
use Rattle.metric_hosted.specs.declared.planned.HostedReader.{HostedReader}
use Rattle.wormweekly_c.specs.declared.attributes.Attribute.{Attribute}
use Rattle.wormweekly_c.specs.declared.batches.BatchOut.{BatchOut}
use Rattle.wormweekly_c.specs.declared.batches.StreamOut.{StreamOut}
use Rattle.wormweekly_c.specs.declared.batches.PointOut.{PointOut}

-- a value is written where it is there
abbrev pub IsWritten : {T : Type 0} → Option T → T → ℕ → Type 0
IsWritten None out code = code ≡ 106
IsWritten (Some x) out code = (code ≡ 0) × (out ≡ x)

-- # walked batch (profile) [batch_out, stream_out, point_out, text_at, entry_value]
-- The batch, the stream at a place and a point of it as they are written out; the texts,
-- boundaries, buckets, keys and values that they have.
abbrev pub batch_out : Batch → BatchOut
batch_out batch = record {
  instrument = batch.instrument;
  streams = length batch.streams;
  start = batch.start;
  time = batch.time;
}

-- the last batch that a reader keeps
abbrev pub last_kept : HostedReader → Option Batch
last_kept own = slice_get own.kept (length own.kept - 1)

-- the points of the stream at a place
abbrev pub points_at : HostedReader → ℕ → Option StreamPoints
points_at own at = option_and_then (λ (batch : Batch). slice_get batch.streams at) (last_kept own)

-- the stream that they are of
abbrev pub stream_at : HostedReader → ℕ → Option Stream
stream_at own at =
    option_and_then (λ (points : StreamPoints). slice_get own.plan.streams points.stream)
    (points_at own at)

abbrev pub kind_number : Kind → ℕ
kind_number Counter = 0
kind_number UpDownCounter = 1
kind_number HistogramKind = 2
kind_number Gauge = 3

abbrev pub aggregation_number : StreamAggregation → ℕ
aggregation_number SumOf = 0
aggregation_number LastValue = 1
aggregation_number (Histogram boundaries) = 2

abbrev pub delta_number : Temporality → ℕ
delta_number Delta = 1
delta_number Cumulative = 0

-- the boundaries of a histogram, else none
abbrev pub boundaries_of : StreamAggregation → List ℤ
boundaries_of SumOf = []
boundaries_of LastValue = []
boundaries_of (Histogram boundaries) = boundaries

abbrev pub written_stream : StreamPoints → Stream → StreamOut
written_stream points stream = record {
  number = points.stream;
  kind = kind_number stream.kind;
  aggregation = aggregation_number stream.aggregation;
  delta = delta_number stream.temporality;
  boundaries = length (boundaries_of stream.aggregation);
  points = length points.points;
}

abbrev pub stream_out : HostedReader → ℕ → Option StreamOut
stream_out own at =
    option_and_then (λ (points : StreamPoints). option_map (written_stream points)
    (slice_get own.plan.streams points.stream)) (points_at own at)

-- a point of a stream
abbrev pub point_at : HostedReader → ℕ → ℕ → Option Point
point_at own at number =
    option_and_then (λ (points : StreamPoints). slice_get points.points number) (points_at own at)

-- the counts of a histogram's buckets, else none
abbrev pub buckets_of : PointValue → List ℕ
buckets_of (Sum value) = []
buckets_of (Last value) = []
buckets_of (Buckets count counts sum min max) = counts

-- a value that may be left out, as 0 then
abbrev pub or_nothing : Option ℤ → ℤ
or_nothing value = unwrap_or value (pos 0)

-- 1 where it is there, else 0
abbrev pub is_there : {T : Type 0} → Option T → ℕ
is_there None = 0
is_there (Some x) = 1

-- the set key of the point's series, none of the overflow point
abbrev pub set_or_none : Option (List ℕ) → List ℕ
set_or_none None = replicate 8 0
set_or_none (Some set) = set

abbrev pub written_value : Option (List ℕ) → PointValue → PointOut
written_value set (Sum value) = record {
  set = set_or_none set;
  is_series = is_there set;
  count = 0;
  has_value = 1;
  value = value;
  least = pos 0;
  greatest = pos 0;
  buckets = 0;
}
written_value set (Last value) = record {
  set = set_or_none set;
  is_series = is_there set;
  count = 0;
  has_value = 1;
  value = value;
  least = pos 0;
  greatest = pos 0;
  buckets = 0;
}
written_value set (Buckets count counts sum min max) = record {
  set = set_or_none set;
  is_series = is_there set;
  count = count;
  has_value = is_there sum;
  value = or_nothing sum;
  least = min;
  greatest = max;
  buckets = length counts;
}

abbrev pub point_out : HostedReader → ℕ → ℕ → Option PointOut
point_out own at number =
    option_map (λ (point : Point). written_value point.set point.value) (point_at own at number)

-- the texts of a stream, by their numbers: its name, unit and description, and its
-- meter's name, version and schema
abbrev pub instrument_at : HostedReader → ℕ → Option Instrument
instrument_at own at =
    option_and_then (λ (stream : Stream).
    slice_get own.plan.facts.contents.instruments stream.instrument) (stream_at own at)

abbrev pub meter_at : HostedReader → ℕ → Option Meter
meter_at own at =
    option_and_then (λ (i : Instrument). slice_get own.plan.facts.contents.meters i.meter)
    (instrument_at own at)

abbrev pub stream_text : Stream → ℕ → List ℕ
stream_text stream kind =
    if kind == 0 then stream.name else (if kind == 1 then stream.unit else stream.description)

abbrev pub meter_text : Meter → ℕ → List ℕ
meter_text meter kind =
    if kind == 3 then meter.name else (if kind == 4 then meter.version else meter.schema_url)

abbrev pub text_at : HostedReader → ℕ → ℕ → Option (List ℕ)
text_at own at kind =
    if nat_lt kind 3
    then option_map (λ (stream : Stream). stream_text stream kind) (stream_at own at)
    else (if nat_lt kind 6
    then option_map (λ (meter : Meter). meter_text meter kind) (meter_at own at) else None)

-- a key that the stream's instrument declares
abbrev pub key_at : HostedReader → ℕ → ℕ → Option Key
key_at own at number =
    option_and_then (λ (i : Instrument). slice_get i.keys number) (instrument_at own at)

abbrev pub key_name : HostedReader → ℕ → ℕ → Option (List ℕ)
key_name own at number = option_map (λ (key : Key). key.name) (key_at own at number)

-- the value that an entry of a set key names for a key
abbrev pub entry_value : HostedReader → ℕ → ℕ → ℕ → Option AttrValue
entry_value own at number entry =
    option_and_then (λ (key : Key). value_at key.values entry) (key_at own at number)

-- the text of a value, else none
abbrev pub text_of_value : AttrValue → List ℕ
text_of_value (Text text) = text
text_of_value (Whole number) = []
text_of_value (Flag flag) = []

-- the value as an attribute without its key
abbrev pub attribute_of : AttrValue → Attribute
attribute_of (Text text) = record { key = 0; kind = 0; text = length text; whole = pos 0 }
attribute_of (Whole number) = record { key = 0; kind = 1; text = 0; whole = number }
attribute_of (Flag flag) = record { key = 0; kind = if flag then 3 else 2; text = 0; whole = pos 0 }

-- the boundaries of the stream at a place
abbrev pub boundaries_at : HostedReader → ℕ → Option (List ℤ)
boundaries_at own at =
    option_map (λ (stream : Stream). boundaries_of stream.aggregation) (stream_at own at)

-- the counts of a point's buckets
abbrev pub buckets_at : HostedReader → ℕ → ℕ → Option (List ℕ)
buckets_at own at number =
    option_map (λ (point : Point). buckets_of point.value) (point_at own at number)
