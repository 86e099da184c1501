-- the bytes that are left are mixed into what there is
use Rattle.std.proofs.Common.{◌≡◌, drop, fold}
use Rattle.metric_plan.specs.Mixing.{mixed}
use Rattle.metric_plan.proofs.mixing.mix_bytes.Given as goal

abbrev pub invariant-loop-byte : goal.invariant-loop-byte
invariant-loop-byte l = fold mixed l.print (drop l.byte-index l.bytes) ≡ fold mixed l.initial.print l.bytes
