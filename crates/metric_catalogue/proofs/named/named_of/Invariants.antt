-- the names so far, and those of the instruments that are left, are those of all
use Rattle.std.proofs.Common.{◌≡◌, ◌++◌, map, drop, length}
use Rattle.metric_catalogue.specs.Seats.{named_in}
use Rattle.metric_catalogue.proofs.named.named_of.Given as goal

abbrev pub invariant-loop-instrument : goal.invariant-loop-instrument
invariant-loop-instrument l = record {
  few : length l.named ≡ l.instrument-index;
  exact : l.named ++ map (named_in l.meters) (drop l.instrument-index l.instruments) ≡ map (named_in l.meters) l.instruments;
}
