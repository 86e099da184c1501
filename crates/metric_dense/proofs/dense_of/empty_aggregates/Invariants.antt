-- the aggregates so far are empty
use Rattle.std.proofs.Common.{◌≡◌, All, length}
use Rattle.metric_dense.specs.DenseTables.{IsMadeOf}
use Rattle.metric_dense.proofs.dense_of.empty_aggregates.Given as goal

abbrev pub invariant-loop-place : goal.invariant-loop-place
invariant-loop-place g l = (length l.all.items ≡ l._place) × All (IsMadeOf g.A.Aggregate l.parameters) l.all.items
