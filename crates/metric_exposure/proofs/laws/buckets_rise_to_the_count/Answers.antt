-- a law of the definitions
use Rattle.metric_exposure.proofs.Rising.{reported_buckets_rise}
use Rattle.metric_exposure.proofs.laws.buckets_rise_to_the_count.Goals as goal

pub returns : goal.returns
returns c = reported_buckets_rise
