-- the numbers of streams are their places
use Rattle.metric_safety.proofs.BatchLaws.{are_identified}
use Rattle.metric_safety.proofs.laws.exported_streams_differ.Goals as goal

pub returns : goal.returns
returns c = are_identified
