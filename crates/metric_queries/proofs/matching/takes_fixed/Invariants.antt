-- each matcher so far of a label that each line has alike takes its text
use Rattle.std.proofs.Common.{◌≡◌, true, take}
use Rattle.metric_family.specs.Labels.{scope_labels}
use Rattle.metric_queries.specs.ByKeys.{takes_fixed}
use Rattle.metric_queries.proofs.matching.takes_fixed.Given as goal

abbrev pub invariant-loop-one : goal.invariant-loop-one
invariant-loop-one l =
    takes_fixed l.added l.served.kind l.served.kept_labels (scope_labels l.served.meter.now)
    (take l.one-index l.asked) ≡ true
