-- what is written and what is left give all
use Rattle.std.proofs.Common.{◌≡◌, ◌++◌}
use Rattle.metric_wire.specs.Wire.{varint}
use Rattle.metric_wire.proofs.varint.push_varint.Given as goal

abbrev pub invariant-loop-rest : goal.invariant-loop-rest
invariant-loop-rest l = l.out.items ++ varint l.rest ≡ l.fn.out.items ++ varint l.fn.number

abbrev pub decreases-loop-rest : goal.decreases-loop-rest
decreases-loop-rest l = l.rest
