-- the weight of those so far
use Rattle.std.proofs.Common.{◌≡◌, ◌≤◌, ◌*◌, ◌^◌, take}
use Rattle.std.specs.Prelude.{sum_by}
use Rattle.metric_catalogue.specs.InFull.{key_weight}
use Rattle.metric_catalogue.proofs.full.keys_weight.Given as goal

abbrev pub invariant-loop-key : goal.invariant-loop-key
invariant-loop-key l = record {
  done : l.weight ≡ sum_by key_weight (take l.key-index l.keys);
  bounded : l.weight ≤ 2 ^ 75 * l.key-index;
}
