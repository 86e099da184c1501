-- How a stream is described, in a batch and in what `show` prints.
use Rattle.std.specs.Prelude.{ℕ, Bool, true, false, List, [], ◌∷◌, ◌++◌, Option, Some, None, codes}
use Rattle.std.specs.Prelude.{slice_get}
use Rattle.std.specs.Fmt.{signed_decimal}
use Rattle.std.specs.List.{concat}
use Rattle.std.specs.Option.{option_map_or}
use Rattle.metric_text.specs.Lists.{labelled, numbered}
use Rattle.metric_contents.specs.declared.contents.Contents.{Contents}
use Rattle.metric_contents.specs.declared.contents.Instrument.{Instrument}
use Rattle.metric_contents.specs.declared.contents.Kind.{Kind}
use Rattle.metric_contents.specs.declared.contents.Meter.{Meter}
use Rattle.metric_contents.specs.Kinds.{is_monotonic}
use Rattle.metric_views.specs.declared.choices.Temporality.{Temporality}
use Rattle.metric_views.specs.declared.choices.Temporality.TheVariants.{Delta, Cumulative}
use Rattle.metric_views.specs.declared.config.Setup.{Setup}
use Rattle.metric_views.specs.declared.config.Reader.{Reader}
use Rattle.metric_views.specs.declared.stream.Stream.{Stream}
use Rattle.metric_views.specs.declared.stream.StreamAggregation.{StreamAggregation}
use Rattle.metric_views.specs.declared.stream.StreamAggregation.TheVariants.{Sum, LastValue}
use Rattle.metric_views.specs.declared.stream.StreamAggregation.TheVariants.{Histogram}
use Rattle.metric_resolve.specs.declared.warning.Warning.{Warning}
use Rattle.metric_resolve.specs.declared.warning.Warning.TheVariants.{Unfit, Collision}
use Rattle.metric_lines.specs.Keys.{names_text}
use Rattle.metric_lines.specs.Pieces.{listed}

-- whether the points of a sum only rise
abbrev pub monotonic_text : Bool → List ℕ
monotonic_text true = codes " kind=sum monotonic=yes"
monotonic_text false = codes " kind=sum monotonic=no"

-- how points are made of an instrument of this kind: as a sum that only rises or
-- another, as last values, as histograms
abbrev pub kind_text : Kind → StreamAggregation → List ℕ
kind_text kind Sum = monotonic_text (is_monotonic kind)
kind_text kind LastValue = codes " kind=last"
kind_text kind (Histogram boundaries) =
    listed signed_decimal (codes " kind=histogram bounds=") boundaries

-- what a stream's points cover
abbrev pub temporality_text : Temporality → List ℕ
temporality_text Delta = codes " temporality=delta"
temporality_text Cumulative = codes " temporality=cumulative"

-- the number of a view, or `-` for the default stream
abbrev pub view_text : Option ℕ → List ℕ
view_text None = codes " view=-"
view_text (Some view) = numbered (codes " view=") view

-- the front of a stream's line in a batch: from where its points come
unfoldable pub source_text : List ℕ → Meter → List ℕ
source_text reader meter = concat (
    labelled (codes "stream reader=") reader
    ∷ labelled (codes " meter=") meter.name
    ∷ labelled (codes " version=") meter.version
    ∷ labelled (codes " schema=") meter.schema_url ∷ [])

-- the rest of that line
unfoldable pub description_text : Stream → List ℕ
description_text stream = concat (
    labelled (codes " name=") stream.name
    ∷ labelled (codes " unit=") stream.unit
    ∷ labelled (codes " description=") stream.description
    ∷ kind_text stream.kind stream.aggregation
    ∷ temporality_text stream.temporality
    ∷ codes "\n" ∷ [])

-- the line of a stream in a batch, with the name of its reader and its meter
unfoldable pub stream_line : List ℕ → Meter → Stream → List ℕ
stream_line reader meter stream = source_text reader meter ++ description_text stream

-- the line of a stream as `show` prints it
unfoldable pub shown_line : ℕ → Stream → Reader → Instrument → List ℕ
shown_line number stream reader instrument = concat (
    numbered (codes "stream ") number
    ∷ labelled (codes " reader=") reader.name
    ∷ numbered (codes " instrument=") stream.instrument
    ∷ view_text stream.view
    ∷ labelled (codes " name=") stream.name
    ∷ kind_text stream.kind stream.aggregation
    ∷ temporality_text stream.temporality
    ∷ numbered (codes " limit=") stream.limit
    ∷ codes " keys=["
    ∷ names_text instrument.keys stream.kept
    ∷ codes "]\n" ∷ [])

-- # line of a shown stream, of a warning (profile) [shown_text, warning_text]
-- What the formats say of one stream and of one warning.
abbrev pub shown_text : Contents → Setup → ℕ → Stream → List ℕ
shown_text contents config number stream =
    option_map_or
    (λ reader. option_map_or (λ instrument. shown_line number stream reader instrument)
    (slice_get contents.instruments stream.instrument) [])
    (slice_get config.readers stream.reader) []

-- a view that names an aggregation which an instrument that it selects does not have
unfoldable pub unfit_text : ℕ → ℕ → List ℕ
unfit_text view instrument = concat (
    numbered (codes "warning Unfit view=") view
    ∷ numbered (codes " instrument=") instrument
    ∷ codes "\n" ∷ [])

-- two streams of one identity
unfoldable pub collision_text : ℕ → ℕ → List ℕ
collision_text a b = concat (
    numbered (codes "warning Collision streams=") a
    ∷ numbered (codes ",") b
    ∷ codes "\n" ∷ [])

-- the line of a warning
abbrev pub warning_text : Warning → List ℕ
warning_text (Unfit view instrument) = unfit_text view instrument
warning_text (Collision a b) = collision_text a b
