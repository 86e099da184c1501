use Rattle.std.proofs.Common.{◌+◌, w64, rules, refl, subst, sym, ◌∙◌}
use Rattle.std.specs.Prelude.{slice_set, slice_index}
use Rattle.std.proofs.lemmas.Int.{to_z-of_z}
use Rattle.std.proofs.lemmas.List.{with_items_is}
use Rattle.metric_aggregate.specs.BucketAgg.{Histogram, StandsBuckets}
use Rattle.metric_aggregate.specs.Value.{bucket_of}
use Rattle.metric_aggregate.proofs.Histograms.{stands_added}
use Rattle.metric_aggregate.proofs.buckets.BucketAggAggregate.add.Goals as goal

pub returns-clause-stands : goal.returns-clause-stands
returns-clause-stands c added s =
    let within = subst (λ (h : Histogram). StandsBuckets h added) (sym c.self.view_is) s in
    let counts = c.deref_mut.ensures.value in
    let bucket = c.count_less-bucket.ensures ∙ (λ i. bucket_of ((c.as_slice.ensures.numbers ∙ c.get.ensures) i) (to_z-of_z w64 c.args.value c.ranges.value i)) in
    stands_added _ _ c.args.value c.ranges.value (record {
      boundaries = refl;
      counts = with_items_is c.self.inside.counts c.count_one.new.counts (c.count_one.auto.counts ∙ c.deref_mut.ensures.len) ∙ c.count_one.ensures
          ∙ (λ i. slice_set (counts i) (bucket i) (slice_index (counts i) (bucket i) + 1));
      count = refl;
      total = search rules;
      least = search rules;
      greatest = search rules;
    }) added within
