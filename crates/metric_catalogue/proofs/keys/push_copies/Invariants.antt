-- the values so far are those before and the copies so far
use Rattle.std.proofs.Common.{◌≡◌, ◌++◌, take}
use Rattle.metric_catalogue.proofs.keys.push_copies.Given as goal

abbrev pub invariant-loop-value : goal.invariant-loop-value
invariant-loop-value l = l.all ≡ l.initial.all ++ take l.value-index l.values
