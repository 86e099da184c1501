-- what is left of both tells
use Rattle.std.proofs.Common.{◌≡◌, drop, filter, not}
use Rattle.metric_lint.specs.Positions.{begins, begins_with, skips}
use Rattle.metric_lint.proofs.position.begins.Given as goal

abbrev pub invariant-loop-byte : goal.invariant-loop-byte
invariant-loop-byte l = begins_with l.left (filter (λ byte. not (skips byte)) (drop l.byte-index l.line)) ≡ begins l.first l.line
