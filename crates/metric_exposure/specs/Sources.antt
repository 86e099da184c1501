-- What streams are made of.
use Rattle.std.specs.Prelude.{ℤ, List, [], Option, option_and_then, slice_get}
use Rattle.std.specs.Option.{option_map_or}
use Rattle.metric_contents.specs.declared.contents.Contents.{Contents}
use Rattle.metric_contents.specs.declared.contents.Instrument.{Instrument}
use Rattle.metric_contents.specs.declared.contents.Key.{Key}
use Rattle.metric_contents.specs.declared.contents.Meter.{Meter}
use Rattle.metric_views.specs.declared.stream.Stream.{Stream}
use Rattle.metric_views.specs.declared.stream.StreamAggregation.{StreamAggregation}
use Rattle.metric_views.specs.declared.stream.StreamAggregation.TheVariants.{Sum, LastValue, Histogram}

-- the boundaries of a histogram, none of another stream
abbrev pub boundaries_of : StreamAggregation → List ℤ
boundaries_of Sum = []
boundaries_of LastValue = []
boundaries_of (Histogram boundaries) = boundaries

-- the keys of a stream's instrument
abbrev pub keys_of : Contents → Stream → List Key
keys_of contents stream =
    option_map_or (λ (instrument : Instrument). instrument.keys)
    (slice_get contents.instruments stream.instrument) []

-- the meter of a stream's instrument
abbrev pub meter_of : Contents → Stream → Option Meter
meter_of contents stream =
    option_and_then (λ (instrument : Instrument). slice_get contents.meters instrument.meter)
    (slice_get contents.instruments stream.instrument)
