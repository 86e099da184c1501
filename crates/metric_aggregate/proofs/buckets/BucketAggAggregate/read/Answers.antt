use Rattle.std.proofs.Common.{◌≡◌, ap, ◌∙◌, rules, subst, sym, w64, to_z, of_z}
use Rattle.std.specs.Prelude.{◌==◌}
use Rattle.metric_aggregate.specs.BucketAgg.{Histogram, StandsBuckets, histogram_aggregation}
use Rattle.metric_aggregate.specs.Value.{value_of}
use Rattle.metric_aggregate.specs.declared.point_value.PointValue.TheVariants.{Buckets}
use Rattle.metric_aggregate.proofs.Histograms.{read_is_value}
use Rattle.metric_aggregate.proofs.buckets.BucketAggAggregate.read.Goals as goal

pub returns : goal.returns
returns c added s =
    let within = subst (λ (h : Histogram). StandsBuckets h added) (sym c.self.view_is) s in
    let least = to_z w64 (of_z w64 c.self.inside.least) in
    let greatest = to_z w64 (of_z w64 c.self.inside.greatest) in
    subst (λ (h : Histogram). Buckets c.self.inside.count c.from_vec.result c.self.inside.total least greatest ≡ value_of (histogram_aggregation h) added) c.self.view_is
    (read_is_value _ c.from_vec.result least greatest added (search rules) (search rules) (search rules) (ap (λ (h : Histogram). h.count == 0) c.self.view_is ∙ c.requires) within)
