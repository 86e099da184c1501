-- each matcher so far of a label of the overflow point takes its text
use Rattle.std.proofs.Common.{◌≡◌, true, take}
use Rattle.metric_queries.specs.ByKeys.{takes_overflow}
use Rattle.metric_queries.proofs.matching.takes_overflow.Given as goal

abbrev pub invariant-loop-one : goal.invariant-loop-one
invariant-loop-one l =
    takes_overflow l.added l.served.kind l.served.kept_labels l.served.meter.now
    (take l.one-index l.asked) ≡ true
