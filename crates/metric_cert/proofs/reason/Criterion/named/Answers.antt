use Rattle.std.proofs.Common.{rules}
use Rattle.metric_cert.proofs.reason.Criterion.named.Goals as goal

pub returns-in-meter_name : goal.returns-in-meter_name
returns-in-meter_name c = search rules
