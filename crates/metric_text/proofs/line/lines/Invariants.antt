-- the lines so far and those that are left are all lines
use Rattle.std.proofs.Common.{◌≡◌, ◌++◌, length, map}
use Rattle.metric_text.specs.Lines.{lines_of}
use Rattle.metric_text.proofs.line.lines.Given as goal

abbrev pub invariant-loop-rest : goal.invariant-loop-rest
invariant-loop-rest l = map (λ line. line.now) l.lines.items ++ lines_of l.rest ≡ lines_of l.fn.bytes

abbrev pub decreases-loop-rest : goal.decreases-loop-rest
decreases-loop-rest l = length l.rest
