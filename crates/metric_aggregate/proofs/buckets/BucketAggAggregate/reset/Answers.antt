use Rattle.std.proofs.Common.{rules, refl, arith}
use Rattle.std.specs.Prelude.{is_some}
use Rattle.std.proofs.lemmas.Grind.{common_steps}
use Rattle.metric_aggregate.proofs.Histograms.{stands_for_none}
use Rattle.metric_aggregate.proofs.buckets.BucketAggAggregate.reset.Goals as goal

pub returns-clause-stands : goal.returns-clause-stands
returns-clause-stands c = stands_for_none _ (is_some c.self.inside.total) (grind (arith, common_steps)) refl (search rules) refl refl
