use Rattle.std.proofs.Common.{rules, refl}
use Rattle.metric_aggregate.proofs.Histograms.{stands_for_none}
use Rattle.metric_aggregate.proofs.buckets.BucketAgg.new.Goals as goal

pub returns-clause-stands : goal.returns-clause-stands
returns-clause-stands c = stands_for_none _ c.args.keeps_sum (search rules) refl c.zero_total.ensures refl refl
