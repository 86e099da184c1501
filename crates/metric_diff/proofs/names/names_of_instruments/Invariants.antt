-- the names of the instruments so far
use Rattle.std.proofs.Common.{◌≡◌, map, take}
use Rattle.metric_diff.specs.Known.{instrument_name}
use Rattle.metric_diff.proofs.names.names_of_instruments.Given as goal

abbrev pub invariant-loop-instrument : goal.invariant-loop-instrument
invariant-loop-instrument l = l.names ≡ map (instrument_name l.meters) (take l.instrument-index l.instruments)
