-- the spare budgets of the instruments so far
use Rattle.std.proofs.Common.{◌≡◌, map, take}
use Rattle.metric_contents.specs.declared.contents.Instrument.{Instrument}
use Rattle.metric_bounds.proofs.amounts.spares_of.Given as goal

abbrev pub invariant-loop-instrument : goal.invariant-loop-instrument
invariant-loop-instrument l = l.spares.items ≡ map (λ (i : Instrument). i.spare) (take l.instrument-index l.instruments)
