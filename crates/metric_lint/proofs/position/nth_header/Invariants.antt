-- the line that is looked for among those that are left
use Rattle.std.proofs.Common.{◌≡◌, drop, filter, map, slice_get}
use Rattle.std.specs.List.{enumerate_from}
use Rattle.metric_lint.specs.Positions.{begins, headed}
use Rattle.metric_lint.proofs.position.nth_header.Given as goal

abbrev pub invariant-loop-before : goal.invariant-loop-before
invariant-loop-before l =
    slice_get (filter (λ line. begins l.header line.1) (drop l.before (enumerate_from 1 (map (λ line. line.now) l.lines)))) l.left
    ≡ slice_get (headed l.header (map (λ line. line.now) l.lines)) l.number
