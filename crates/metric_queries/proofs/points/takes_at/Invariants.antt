-- each matcher so far takes the text
use Rattle.std.proofs.Common.{◌≡◌, true, take}
use Rattle.metric_queries.specs.ByKeys.{takes_at}
use Rattle.metric_queries.proofs.points.takes_at.Given as goal

abbrev pub invariant-loop-one : goal.invariant-loop-one
invariant-loop-one l = takes_at l.label l.text (take l.one-index l.asked) ≡ true
