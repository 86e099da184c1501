-- What each instrument offers the readers.
use Rattle.std.specs.Prelude.{◌≡◌, ℕ, ◌≤◌, ◌++◌, List, [], length, map, Option, Some, None}
use Rattle.std.specs.Prelude.{slice_get, if◌then◌else◌}
use Rattle.std.specs.List.{enumerate_from, filter_map, list_any}
use Rattle.metric_contents.specs.declared.contents.Contents.{Contents}
use Rattle.metric_contents.specs.declared.contents.Instrument.{Instrument}
use Rattle.metric_views.specs.declared.config.Config.{Config}
use Rattle.metric_views.specs.declared.config.Reader.{Reader}
use Rattle.metric_views.specs.declared.config.View.{View}
use Rattle.metric_views.specs.declared.stream.Stream.{Stream}
use Rattle.metric_views.specs.declared.template.Template.{Template}
use Rattle.metric_views.specs.Streams.{fill_by, no_settings, template_of}
use Rattle.metric_resolve.specs.declared.offers.Offer.{Offer}
use Rattle.metric_resolve.specs.Applying.{is_selected}
use Rattle.metric_resolve.specs.Resolved.{is_fit, kept, kept_of}

-- what a view with its number offers of an instrument with its number
abbrev pub view_template : Contents → Config → ℕ → Instrument → ℕ × View → Option Template
view_template contents config number instrument view =
    if is_selected contents config number view.0
    then Some (template_of number instrument (Some view.0) view.1.settings) else None

-- It is what the instrument of this number offers.
pub record IsOffer (contents : Contents) (config : Config) (number : ℕ) (offer : Offer)
    : Type 0 where
  pub instrument : Instrument
  pub at : slice_get contents.instruments number ≡ Some instrument
  pub by_views : offer.by_views ≡ filter_map (view_template contents config number instrument)
      (enumerate_from 0 config.views)
  pub default : offer.default ≡ template_of number instrument None no_settings

-- They are what the instruments offer, in order. There are as many
-- instruments and views as a file may have.
pub record AreOffers (contents : Contents) (config : Config) (offers : List Offer) : Type 0 where
  pub few_instruments : length contents.instruments ≤ 512
  pub few_views : length config.views ≤ 256
  pub count : length offers ≡ length contents.instruments
  pub each : (k : ℕ) (offer : Offer) → slice_get offers k ≡ Some offer
      → IsOffer contents config k offer

-- the streams of what an instrument offers, for the reader of a number
abbrev pub streams_of_offer : ℕ → Reader → Offer → List Stream
streams_of_offer number reader offer =
    filter_map kept (map (fill_by number reader) offer.by_views)
    ++ (if list_any is_fit (map (fill_by number reader) offer.by_views) then []
    else kept_of (fill_by number reader offer.default))
