-- what is written so far
use Rattle.std.proofs.Common.{◌≡◌, ◌∷◌, ◌++◌, take}
use Rattle.std.specs.List.{flat_map}
use Rattle.metric_otlp.specs.PointsJson.{point_json}
use Rattle.metric_otlp.proofs.point_json.push_more.Given as goal

abbrev pub invariant-loop-point : goal.invariant-loop-point
invariant-loop-point l =
    l.out.items
    ≡ l.fn.out.items
    ++ flat_map (λ point. 44 ∷ point_json l.series.keys.now l.series.kept.now l.bounds l.batch point)
    (take l.point-index l.points)
