-- the sink is written by one batch, whose answer is given
use Rattle.std.proofs.Common.{rules}
use Rattle.metric_export.proofs.text_exporter.TextExporterMetricExporter.export.Goals as goal

pub returns-clause-text : goal.returns-clause-text
returns-clause-text g c = search rules

pub returns-clause-counted : goal.returns-clause-counted
returns-clause-counted g c = search rules

pub returns-clause-memory : goal.returns-clause-memory
returns-clause-memory g c = search rules
