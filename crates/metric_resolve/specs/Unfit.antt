-- Views that themselves name an aggregation that does not fit what they select.
use Rattle.std.specs.Prelude.{ℕ, Bool, false, ◌&&◌, List, Option, Some, None, slice_get}
use Rattle.std.specs.Prelude.{if◌then◌else◌}
use Rattle.std.specs.List.{filter_map, flat_map}
use Rattle.std.specs.Option.{option_map_or}
use Rattle.metric_contents.specs.declared.contents.Contents.{Contents}
use Rattle.metric_contents.specs.declared.contents.Instrument.{Instrument}
use Rattle.metric_views.specs.declared.config.Config.{Config}
use Rattle.metric_views.specs.declared.config.View.{View}
use Rattle.metric_views.specs.Choices.{is_unfit}
use Rattle.metric_resolve.specs.declared.warning.Warning.{Warning}
use Rattle.metric_resolve.specs.declared.warning.Warning.TheVariants as warnings
use Rattle.metric_resolve.specs.Applying.{all_instruments, all_views, meter_at, selects_with}

-- the view itself names an aggregation that does not fit the instrument, so a sum of a gauge
abbrev pub names_unfit : View → Instrument → Bool
names_unfit view instrument =
    option_map_or (is_unfit instrument.kind) view.settings.aggregation false

abbrev pub names_unfit_with : Option View → Option Instrument → Bool
names_unfit_with (Some view) (Some instrument) = names_unfit view instrument
names_unfit_with _ _ = false

-- the view, where there is one, is to be warned of at the instrument of a number
abbrev pub is_unfit_with : Contents → Option View → ℕ → Bool
is_unfit_with contents view number =
    names_unfit_with view (slice_get contents.instruments number)
    && selects_with view (meter_at contents number) (slice_get contents.instruments number)

-- the warning of the view of this number at the instrument of a number, where there is one
abbrev pub unfit_with : Contents → ℕ → Option View → ℕ → Option Warning
unfit_with contents number view instrument =
    if is_unfit_with contents view instrument then Some (warnings.Unfit number instrument) else None

unfoldable pub is_unfit_at : Contents → View → ℕ → Bool
is_unfit_at contents view number = is_unfit_with contents (Some view) number

-- the warnings of the view of a number, by instrument
unfoldable pub unfit_of_view : Contents → Config → ℕ → List Warning
unfit_of_view contents config number =
    filter_map (unfit_with contents number (slice_get config.views number))
    (all_instruments contents)

-- # unfit pair (profile)
-- A view that itself names a sum and selects a gauge.
unfoldable pub unfit_of : Contents → Config → List Warning
unfit_of contents config = flat_map (unfit_of_view contents config) (all_views config)
