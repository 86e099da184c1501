-- Each choice has its word.
use Rattle.std.proofs.Common.{map, refl, arith}
use Rattle.metric_views.specs.declared.choices.Aggregation.TheVariants.{Default, Drop, Sum, LastValue, ExplicitBucketHistogram}
use Rattle.metric_views.specs.declared.choices.Temporality.TheVariants.{Delta, Cumulative}
use Rattle.metric_messages.specs.declared.choices.TheConstants.{AGGREGATIONS, GAUGE_AGGREGATIONS, TEMPORALITIES}
use Rattle.metric_messages.specs.Choices.{NameEachAggregation, NameEachForGauges, NameEachTemporality}

pub temporalities : NameEachTemporality (map (λ word. word.now) TEMPORALITIES)
temporalities Delta = (0, omega arith, refl)
temporalities Cumulative = (1, omega arith, refl)

pub aggregations : NameEachAggregation (map (λ word. word.now) AGGREGATIONS)
aggregations Default = (0, omega arith, refl)
aggregations Drop = (1, omega arith, refl)
aggregations Sum = (2, omega arith, refl)
aggregations LastValue = (3, omega arith, refl)
aggregations ExplicitBucketHistogram = (4, omega arith, refl)

pub gauges : NameEachForGauges (map (λ word. word.now) GAUGE_AGGREGATIONS)
gauges Default fits = (0, omega arith, refl)
gauges Drop fits = (1, omega arith, refl)
gauges Sum fits = absurd cc
gauges LastValue fits = (2, omega arith, refl)
gauges ExplicitBucketHistogram fits = (3, omega arith, refl)

pub ruleset choices = (temporalities, aggregations, gauges)
