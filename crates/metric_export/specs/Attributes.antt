-- The attributes of a point, as keys with their values.
use Rattle.std.specs.Prelude.{ℕ, Bool, true, List, [], ◌∷◌, Option, Some, None, Result, Ok, Err}
use Rattle.std.specs.Prelude.{codes, slice_get, if◌then◌else◌}
use Rattle.std.specs.Option.{option_map_or}
use Rattle.metric_names.specs.declared.value.AttrValue.TheVariants.{Flag}
use Rattle.metric_contents.specs.declared.contents.Instrument.{Instrument}
use Rattle.metric_contents.specs.declared.contents.Key.{Key}
use Rattle.metric_history.specs.declared.batch.Batch.{Batch}
use Rattle.metric_views.specs.declared.stream.Stream.{Stream}
use Rattle.metric_plan.specs.Plans.{PlanValue}
use Rattle.metric_lines.specs.Keys.{Attribute, attributes_of}
use Rattle.metric_export.specs.declared.fault.ExportFault.{ExportFault}
use Rattle.metric_export.specs.declared.fault.ExportFault.TheVariants.{OtherPlan}
use Rattle.metric_export.specs.Exports.{is_own}

-- # attributes of a point (SDK, overflow attribute) [series_attributes, declared_keys,
-- point_attributes]
-- As `attributes of a series` above, as keys with values; of a stream of a plan, and of a batch of it.
abbrev pub series_attributes : List Key → List Bool → Option (List ℕ) → List Attribute
series_attributes keys kept (Some set) = attributes_of keys kept set
series_attributes keys kept None = (codes "otel.metric.overflow", Flag true) ∷ []

-- the declared keys of a stream's instrument, none where the plan has no such instrument
abbrev pub declared_keys : PlanValue → Stream → List Key
declared_keys plan stream =
    option_map_or (λ (instrument : Instrument). instrument.keys)
    (slice_get plan.facts.contents.instruments stream.instrument) []

abbrev pub point_attributes : PlanValue → Batch → Stream → Option (List ℕ)
    → Result (List Attribute) ExportFault
point_attributes plan batch stream set =
    if is_own plan batch
    then Ok (series_attributes (declared_keys plan stream) stream.kept set) else Err OtherPlan
