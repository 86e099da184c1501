-- the scopes so far
use Rattle.std.proofs.Common.{◌≡◌, ◌++◌, ◌∷◌, map, take}
use Rattle.std.specs.List.{flat_map}
use Rattle.metric_otlp.specs.Lines.{scope_json}
use Rattle.metric_otlp.specs.Reported.{report_by}
use Rattle.metric_otlp.proofs.line.push_more_scopes.Given as goal

abbrev pub invariant-loop-report : goal.invariant-loop-report
invariant-loop-report l = l.out.items ≡ l.fn.out.items ++ flat_map (λ report. 44 ∷ scope_json report) (map report_by (take l.report-index l.reports))
