-- the identities of neighbours so far rise
use Rattle.metric_check.proofs.OrderLaws.{RiseUpTo}
use Rattle.metric_check.proofs.orders.are_rising.Given as goal

abbrev pub invariant-loop-place : goal.invariant-loop-place
invariant-loop-place l = RiseUpTo l.catalogue l.streams l.numbers l.place
