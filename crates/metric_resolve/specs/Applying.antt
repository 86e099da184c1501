-- Which views apply to an instrument for a reader.
use Rattle.std.specs.Prelude.{ℕ, Bool, false, not, ◌&&◌, List, [], ◌∷◌, length, map, filter, Option}
use Rattle.std.specs.Prelude.{Some, None, slice_get, option_and_then}
use Rattle.std.specs.List.{range_with_len}
use Rattle.metric_contents.specs.declared.contents.Contents.{Contents}
use Rattle.metric_contents.specs.declared.contents.Instrument.{Instrument}
use Rattle.metric_contents.specs.declared.contents.Meter.{Meter}
use Rattle.metric_views.specs.declared.config.Config.{Config}
use Rattle.metric_views.specs.declared.config.Reader.{Reader}
use Rattle.metric_views.specs.declared.config.View.{View}
use Rattle.metric_views.specs.Selection.{selects}
use Rattle.metric_views.specs.Choices.{is_unfit}
use Rattle.metric_views.specs.Streams.{chosen_aggregation}

-- the numbers of the readers, the views and the instruments
abbrev pub all_readers : Config → List ℕ
all_readers config = range_with_len 0 (length config.readers)

abbrev pub all_views : Config → List ℕ
all_views config = range_with_len 0 (length config.views)

abbrev pub all_instruments : Contents → List ℕ
all_instruments contents = range_with_len 0 (length contents.instruments)

-- the meter of the instrument of a number
abbrev pub meter_at : Contents → ℕ → Option Meter
meter_at contents instrument =
    option_and_then (λ i. slice_get contents.meters i.meter)
    (slice_get contents.instruments instrument)

abbrev pub selects_with : Option View → Option Meter → Option Instrument → Bool
selects_with (Some view) (Some meter) (Some instrument) = selects view.criteria meter instrument
selects_with _ _ _ = false

-- the view of a number selects the instrument of a number
unfoldable pub is_selected : Contents → Config → ℕ → ℕ → Bool
is_selected contents config instrument view =
    selects_with (slice_get config.views view) (meter_at contents instrument)
    (slice_get contents.instruments instrument)

abbrev pub fits_with : Option Reader → Option View → Option Instrument → Bool
fits_with (Some reader) (Some view) (Some instrument) =
    not
    (is_unfit instrument.kind (chosen_aggregation reader instrument.kind view.settings.aggregation))
fits_with _ _ _ = false

-- the view's aggregation, else the reader's, fits the kind of the instrument
unfoldable pub fits : Contents → Config → ℕ → ℕ → ℕ → Bool
fits contents config reader instrument view =
    fits_with (slice_get config.readers reader) (slice_get config.views view)
    (slice_get contents.instruments instrument)

-- # applies (SDK, View) [applies, applying]
-- A view selects an instrument, and its aggregation, else the reader's, fits the kind.
abbrev pub applies : Contents → Config → ℕ → ℕ → ℕ → Bool
applies contents config reader instrument view =
    is_selected contents config instrument view && fits contents config reader instrument view

-- the numbers of the views that apply, in order
abbrev pub applying : Contents → Config → ℕ → ℕ → List ℕ
applying contents config reader instrument =
    filter (applies contents config reader instrument) (all_views config)

-- these views, or only the default where there is none
abbrev pub or_default : List ℕ → List (Option ℕ)
or_default [] = None ∷ []
or_default (view ∷ views) = map (λ v. Some v) (view ∷ views)

-- # views for an instrument (SDK, View)
-- The views that apply for a reader, in order, or only the default where none applies.
abbrev pub views_for : Contents → Config → ℕ → ℕ → List (Option ℕ)
views_for contents config reader instrument =
    or_default (applying contents config reader instrument)
