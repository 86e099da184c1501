-- the metrics so far
use Rattle.std.proofs.Common.{◌≡◌, ◌++◌, ◌∷◌, map, take}
use Rattle.std.specs.List.{flat_map}
use Rattle.metric_otlp.specs.Lines.{metric_json}
use Rattle.metric_otlp.specs.Reported.{reported_by}
use Rattle.metric_otlp.proofs.line.push_more_metrics.Given as goal

abbrev pub invariant-loop-reported : goal.invariant-loop-reported
invariant-loop-reported l = l.out.items ≡ l.fn.out.items ++ flat_map (λ reported. 44 ∷ metric_json reported) (map reported_by (take l.reported-index l.streams))
