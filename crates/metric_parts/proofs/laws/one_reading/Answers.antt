use Rattle.metric_parts.proofs.OneReading.{same_parts, same_fault, no_input}
use Rattle.metric_parts.proofs.laws.one_reading.Goals as goal

pub returns : goal.returns
returns c = record { parts = same_parts; fault = same_fault; apart = no_input }
