-- all of them
use Rattle.std.proofs.Common.{◌≡◌, ◌∙◌, take_all, ap, arith}
use Rattle.std.specs.Prelude.{List, sum_by}
use Rattle.metric_contents.specs.declared.contents.Instrument.{Instrument}
use Rattle.metric_catalogue.specs.InFull.{instrument_weight}
use Rattle.metric_catalogue.proofs.full.full_weight.Goals as goal

pub returns : goal.returns
returns c =
    c.loop-instrument.invariant.done
    ∙ ap (λ (xs : List Instrument). sum_by instrument_weight xs)
    (take_all c.loop-instrument.instrument-index c.args.instruments.now (omega arith))
