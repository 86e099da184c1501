-- the points of the keys so far
use Rattle.std.proofs.Common.{◌≡◌, List, map, take, Some}
use Rattle.metric_history.specs.declared.entry.Entry.{Entry}
use Rattle.metric_history.specs.Points.{point}
use Rattle.metric_views.specs.declared.stream.Stream.{Stream}
use Rattle.metric_series.specs.Tables.{StandsTable}
use Rattle.metric_series.proofs.hashed.TableOfTable.points.Given as goal

abbrev pub invariant-loop-key : goal.invariant-loop-key
invariant-loop-key g l = (s : Stream) (window : List Entry) → StandsTable g.A.Aggregate l.self s window → l.points.items ≡ map (λ key. point s window (Some key)) (take l.key-index l.key-items)
