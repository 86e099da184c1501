-- Borrowed reports.
use Rattle.std.specs.Prelude.{map}
use Rattle.metric_otlp.specs.declared.report.Report.{Report as BorrowedReport}
use Rattle.metric_otlp.specs.declared.report.Reported.{Reported}
use Rattle.metric_otlp.specs.Reports.{Report, ReportedStream}

-- what a stream with its points points to
abbrev pub reported_by : Reported → ReportedStream
reported_by r = record { keys = r.keys.now; batch = r.batch.now; stream = r.stream.now; points = r.points.now }

-- what a report points to
abbrev pub report_by : BorrowedReport → Report
report_by r = record { meter = r.meter.now; streams = map reported_by r.streams.items }
