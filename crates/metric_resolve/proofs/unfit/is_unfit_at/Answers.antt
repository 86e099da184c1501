-- the instrument is the one of the number
use Rattle.std.proofs.Common.{◌≡◌, get_or, List, Some, slice_get, refl, sym, ap, ◌∙◌}
use Rattle.std.proofs.lemmas.Option.{slice_get_read}
use Rattle.metric_contents.specs.declared.contents.Instrument.{Instrument}
use Rattle.metric_resolve.specs.Unfit.{is_unfit_at}
use Rattle.metric_resolve.proofs.unfit.is_unfit_at.Goals as goal

pub returns-then-names_unfit : goal.returns-then-names_unfit
unfolding is_unfit_at
returns-then-names_unfit c =
    let contents = c.args.catalogue.now in
    let i = c.index-instruments-number.result in
    let n = c.args.number in
    let is = c.index-instruments-number.is ∙ ap (λ (is : List Instrument). get_or is n i) c.instruments.ensures.instruments in
    let at : slice_get contents.instruments n ≡ Some i = slice_get_read contents.instruments _ n i refl c.requires is in
    let named = sym c.names_unfit.ensures ∙ c.if-names_unfit.true in
    rw (c.meter_of.ensures, at, named) c.selects.ensures.value

pub returns-else-names_unfit : goal.returns-else-names_unfit
unfolding is_unfit_at
returns-else-names_unfit c =
    let contents = c.args.catalogue.now in
    let i = c.index-instruments-number.result in
    let n = c.args.number in
    let is = c.index-instruments-number.is ∙ ap (λ (is : List Instrument). get_or is n i) c.instruments.ensures.instruments in
    let at : slice_get contents.instruments n ≡ Some i = slice_get_read contents.instruments _ n i refl c.requires is in
    let named = sym c.names_unfit.ensures ∙ c.if-names_unfit.false in
    rw (at, named) c.if-names_unfit.false
