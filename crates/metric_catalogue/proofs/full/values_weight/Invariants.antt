-- the weight of those so far
use Rattle.std.proofs.Common.{◌≡◌, ◌≤◌, ◌*◌, ◌^◌, take}
use Rattle.std.specs.Prelude.{sum_by}
use Rattle.metric_catalogue.specs.InFull.{value_weight}
use Rattle.metric_catalogue.proofs.full.values_weight.Given as goal

abbrev pub invariant-loop-value : goal.invariant-loop-value
invariant-loop-value l = record {
  done : l.weight ≡ sum_by value_weight (take l.value-index l.values);
  bounded : l.weight ≤ 2 ^ 65 * l.value-index;
}
