use Rattle.std.proofs.Common.{◌≡◌, take}
use Rattle.metric_dense.proofs.ranks.copied.Given as goal

abbrev pub invariant-loop-key : goal.invariant-loop-key
invariant-loop-key l = l.own ≡ take l.key-index l.keys
