-- Words that a config may choose from: none is left out.
use Rattle.std.specs.Prelude.{◌≡◌, ℕ, false, List, map, Contains, Some}
use Rattle.metric_contents.specs.declared.contents.Kind.TheVariants.{Gauge}
use Rattle.metric_views.specs.Choices.{aggregation_named, is_unfit, temporality_named}
use Rattle.metric_views.specs.declared.choices.Aggregation.{Aggregation}
use Rattle.metric_views.specs.declared.choices.Temporality.{Temporality}

-- each temporality is what one of the words names
abbrev pub NameEachTemporality : List (List ℕ) → Type 0
NameEachTemporality words =
    (temporality : Temporality) → Contains (map temporality_named words) (Some temporality)

-- each aggregation is what one of the words names
abbrev pub NameEachAggregation : List (List ℕ) → Type 0
NameEachAggregation words =
    (aggregation : Aggregation) → Contains (map aggregation_named words) (Some aggregation)

-- the same of each aggregation that fits a gauge
abbrev pub NameEachForGauges : List (List ℕ) → Type 0
NameEachForGauges words =
    (aggregation : Aggregation) → is_unfit Gauge aggregation ≡ false
    → Contains (map aggregation_named words) (Some aggregation)
