-- view and instrument are those of the numbers
use Rattle.std.proofs.Common.{◌≡◌, get_or, List, Some, slice_get, refl, ap, ◌∙◌}
use Rattle.std.proofs.lemmas.Option.{slice_get_read}
use Rattle.metric_contents.specs.declared.contents.Instrument.{Instrument}
use Rattle.metric_views.specs.declared.config.View.{View}
use Rattle.metric_resolve.specs.Applying.{is_selected}
use Rattle.metric_lint.proofs.selected.is_selected.Goals as goal

pub returns : goal.returns
unfolding is_selected
returns c =
    let contents = c.args.catalogue.now in
    let config = c.args.config.now in
    let i = c.index-instruments-instrument.result in
    let v = c.index-views-view.result in
    let is = c.index-instruments-instrument.is ∙ ap (λ (is : List Instrument). get_or is c.args.instrument i) c.instruments.ensures.instruments in
    let is_view = c.index-views-view.is ∙ ap (λ (vs : List View). get_or vs c.args.view v) c.views.ensures.views in
    let at : slice_get contents.instruments c.args.instrument ≡ Some i = slice_get_read contents.instruments _ c.args.instrument i refl c.requires.instrument is in
    let view_at : slice_get config.views c.args.view ≡ Some v = slice_get_read config.views _ c.args.view v refl c.requires.view is_view in
    rw (view_at, c.meter_of-meter.ensures, at) c.selects.ensures.value
