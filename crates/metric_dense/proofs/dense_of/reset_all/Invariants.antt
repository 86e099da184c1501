-- the aggregates so far are empty, and the others are as they were
use Rattle.metric_dense.proofs.Emptying.{EmptiedTo}
use Rattle.metric_dense.proofs.dense_of.reset_all.Given as goal

abbrev pub invariant-loop-aggregate : goal.invariant-loop-aggregate
invariant-loop-aggregate g l = EmptiedTo g.A.Aggregate l.initial.aggregates l.aggregates l.aggregate-index
