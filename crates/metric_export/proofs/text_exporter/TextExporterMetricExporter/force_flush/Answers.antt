-- Ok is answered only where the flush did not fail
use Rattle.std.proofs.Common.{rules}
use Rattle.metric_export.proofs.text_exporter.TextExporterMetricExporter.force_flush.Goals as goal

pub returns-clause-counted : goal.returns-clause-counted
returns-clause-counted g c = search rules
