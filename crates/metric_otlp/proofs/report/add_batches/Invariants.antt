-- the streams of the batches so far
use Rattle.std.proofs.Common.{◌≡◌, ◌++◌, map, take}
use Rattle.std.specs.List.{flat_map}
use Rattle.metric_otlp.specs.Reported.{reported_by}
use Rattle.metric_otlp.specs.Reports.{reported_by_meter}
use Rattle.metric_otlp.proofs.report.add_batches.Given as goal

abbrev pub invariant-loop-batch : goal.invariant-loop-batch
invariant-loop-batch l = map reported_by l.found.items ≡ map reported_by l.fn.found.items
    ++ flat_map (reported_by_meter l.catalogue l.streams l.meter) (take l.batch-index l.batches)
