-- Where a fault stands that keeps a stream from a way out.
use Rattle.std.specs.Prelude.{◌≡◌, ℕ, List, Option, Some, None, slice_get}
use Rattle.metric_views.specs.declared.fault.ConfigPlace.TheVariants.{Top, Reader}
use Rattle.metric_views.specs.declared.stream.Stream.{Stream}
use Rattle.metric_lint.specs.declared.position.Position.{Position}
use Rattle.metric_exposure.specs.declared.fault.ExposureFault.{ExposureFault}
use Rattle.metric_exposure.specs.declared.fault.ExposureFault.TheVariants as faults
use Rattle.metric_messages.specs.declared.places.Place.{Place}
use Rattle.metric_messages.specs.declared.places.Place.TheVariants.{Config}
use Rattle.metric_messages.specs.Places.{file_of, place_of_stream, standing}
use Rattle.metric_messages.specs.declared.sources.Pair.{Pair}

-- the reader of a stream
abbrev pub place_of_reader : Option Stream → Place
place_of_reader None = Config Top
place_of_reader (Some stream) = Config (Reader stream.reader)

-- the table that a fault is about: of a stream that is a delta its reader
abbrev pub place_of : List Stream → ExposureFault → Place
place_of streams (faults.Delta stream) = place_of_reader (slice_get streams stream)
place_of streams (faults.Boundary stream) = place_of_stream (slice_get streams stream)
place_of streams (faults.Nameless stream) = place_of_stream (slice_get streams stream)
place_of streams (faults.NameCollision stream with) = place_of_stream (slice_get streams stream)
place_of streams (faults.BadLabel stream key) = place_of_stream (slice_get streams stream)
place_of streams (faults.LabelCollision stream key) = place_of_stream (slice_get streams stream)
place_of streams (faults.ValueCollision stream key) = place_of_stream (slice_get streams stream)
place_of streams faults.Memory = Config Top

-- # where a fault stands that keeps a stream from a way out (profile)
-- The position is that of the table: of the reader of a delta, else of the stream's view, else of
-- its instrument.
abbrev pub ExposureStands : List ℕ → List ℕ → List Stream → ExposureFault → Option Position
    → Type 0
ExposureStands catalogue config streams fault position =
    position ≡ standing catalogue config (place_of streams fault)

-- the file that is named for it: that of the same table
abbrev pub ExposureNames : Pair → List Stream → ExposureFault → List ℕ → Type 0
ExposureNames pair streams fault file = file ≡ file_of pair (place_of streams fault)
