-- an instrument of the catalogue for each of the facts, and few of them
use Rattle.std.proofs.Common.{◌≡◌, List, length, sym, ap, ◌∙◌, arith}
use Rattle.metric_contents.specs.declared.contents.Instrument.{Instrument}
use Rattle.metric_provider.proofs.starting.instruments_of.Goals as goal

pub overflow_cast-result : goal.overflow_cast-result
overflow_cast-result c = record { fits = omega (arith, c.instruments.ensures.few, ap length c.instruments.ensures.instruments) }

pub returns : goal.returns
returns c =
    let all : length c.args.plan.now.facts.instruments ≡ length c.instruments.result.now =
    c.catalogue.ensures.one_each ∙ ap (λ (xs : List Instrument). length xs) (sym c.instruments.ensures.instruments) in
    sym all
