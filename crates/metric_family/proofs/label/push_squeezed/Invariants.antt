-- what is written, and what is left to be written
use Rattle.std.proofs.Common.{◌≡◌, ◌++◌, false, drop}
use Rattle.metric_family.specs.Labels.{squeezed}
use Rattle.metric_family.proofs.label.push_squeezed.Given as goal

abbrev pub invariant-loop-byte : goal.invariant-loop-byte
invariant-loop-byte l = l.out.items ++ squeezed l.is_after (drop l.byte-index l.key) ≡ l.fn.out.items ++ squeezed false l.key
