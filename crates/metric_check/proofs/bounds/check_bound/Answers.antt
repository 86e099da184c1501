-- the numbers are those of the instrument at the place
use Rattle.std.proofs.Common.{◌≡◌, ◌<◌, List, Some, length, slice_get, refl, ap, sym, ◌∙◌, arith}
use Rattle.std.proofs.lemmas.Option.{slice_get_read}
use Rattle.metric_contents.specs.declared.contents.Instrument.{Instrument}
use Rattle.metric_check.proofs.Bounded.{bound_found}
use Rattle.metric_check.proofs.bounds.check_bound.Goals as goal

pub returns : goal.returns
returns c =
    let instruments = c.instruments.result.now in
    let n = c.args.number in
    let within : n < length instruments = omega (arith, c.requires.known, ap length c.instruments.ensures.instruments) in
    let at = slice_get_read instruments (length instruments) n c.index-instruments-number.result refl within c.index-instruments-number.is in
    bound_found c.args.catalogue.now c.args.streams.now n c.args.total c.args.summed c.index-instruments-number.result c.args.bound.now _
    (ap (λ (is : List Instrument). slice_get is n) (sym c.instruments.ensures.instruments) ∙ at) c.requires.total c.requires.summed c.check_numbers.ensures
