-- the exporter is shut down, whatever the flush answered
use Rattle.std.proofs.Common.{rules}
use Rattle.metric_export.proofs.text_exporter.TextExporterMetricExporter.shutdown.Goals as goal

pub returns-clause-state : goal.returns-clause-state
returns-clause-state g c = search rules

pub returns-clause-flushed : goal.returns-clause-flushed
returns-clause-flushed g c = rw (← c.self.view_is) at c.force_flush-answer.ensures.flushed
