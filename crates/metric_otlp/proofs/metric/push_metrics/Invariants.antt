-- the metrics so far
use Rattle.std.proofs.Common.{◌≡◌, ◌++◌, map, take}
use Rattle.std.specs.List.{flat_map}
use Rattle.metric_otlp.specs.Metrics.{metric_field}
use Rattle.metric_otlp.specs.Reported.{reported_by}
use Rattle.metric_otlp.proofs.metric.push_metrics.Given as goal

abbrev pub invariant-loop-reported : goal.invariant-loop-reported
invariant-loop-reported l = l.out.items ≡ l.fn.out.items ++ flat_map metric_field (map reported_by (take l.reported-index l.streams))
