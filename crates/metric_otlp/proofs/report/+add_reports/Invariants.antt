-- It calls itself with fewer meters.
use Rattle.std.proofs.Common.{length}
use Rattle.metric_otlp.proofs.report.+add_reports.Given as goal

abbrev pub decreases-add_reports : goal.decreases-add_reports
decreases-add_reports l = length l.meters.now
