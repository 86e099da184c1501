-- the scopes so far
use Rattle.std.proofs.Common.{◌≡◌, ◌++◌, map, take}
use Rattle.std.specs.List.{flat_map}
use Rattle.metric_otlp.specs.Reported.{report_by}
use Rattle.metric_otlp.specs.Scopes.{scope_field}
use Rattle.metric_otlp.proofs.request.push_scopes.Given as goal

abbrev pub invariant-loop-report : goal.invariant-loop-report
invariant-loop-report l = l.out.items ≡ l.fn.out.items
    ++ flat_map scope_field (map report_by (take l.report-index l.reports))
