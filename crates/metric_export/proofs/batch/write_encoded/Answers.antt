-- the sink holds the text once
use Rattle.std.proofs.Common.{rules}
use Rattle.metric_export.proofs.batch.write_encoded.Goals as goal

pub returns-clause-text : goal.returns-clause-text
returns-clause-text g c = search rules
