-- laws of the definitions
use Rattle.metric_resolve.proofs.StreamLaws.{streams_exact, streams_ordered}
use Rattle.metric_resolve.proofs.laws.streams_are_what_views_give.Goals as goal

pub returns : goal.returns
returns c = record { exact = streams_exact; order = streams_ordered }
