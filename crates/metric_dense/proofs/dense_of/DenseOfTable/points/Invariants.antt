-- the points of the aggregates so far, and the series of the next one
use Rattle.std.proofs.Common.{◌≡◌, ◌<◌, List, map, take, Some}
use Rattle.metric_facts.specs.Products.{product_of}
use Rattle.metric_history.specs.declared.entry.Entry.{Entry}
use Rattle.metric_history.specs.Points.{point}
use Rattle.metric_views.specs.declared.stream.Stream.{Stream}
use Rattle.metric_dense.specs.DenseTables.{StandsDense}
use Rattle.metric_dense.specs.Ranks.{series_of}
use Rattle.metric_dense.proofs.Reporting.{used}
use Rattle.metric_dense.proofs.dense_of.DenseOfTable.points.Given as goal

abbrev pub invariant-loop-rank : goal.invariant-loop-rank
invariant-loop-rank g l =
    (l._rank < product_of l.self.kept l.self.keys → l.set ≡ series_of l.self.kept l.self.keys l._rank)
    × ((s : Stream) (window : List Entry) → StandsDense g.A.Aggregate l.self s window
    → l.points.items ≡ map (λ key. point s window (Some key)) (used g.A.Aggregate s.kept l.self.keys (take l._rank l.self.aggregates)))
