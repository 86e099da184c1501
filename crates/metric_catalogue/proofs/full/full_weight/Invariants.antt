-- the weight of those so far
use Rattle.std.proofs.Common.{◌≡◌, ◌≤◌, ◌*◌, ◌^◌, take}
use Rattle.std.specs.Prelude.{sum_by}
use Rattle.metric_catalogue.specs.InFull.{instrument_weight}
use Rattle.metric_catalogue.proofs.full.full_weight.Given as goal

abbrev pub invariant-loop-instrument : goal.invariant-loop-instrument
invariant-loop-instrument l = record {
  done : l.weight ≡ sum_by instrument_weight (take l.instrument-index l.instruments);
  bounded : l.weight ≤ 2 ^ 78 * l.instrument-index;
}
