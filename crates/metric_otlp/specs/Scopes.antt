-- Scopes: messages `ScopeMetrics`, with an `InstrumentationScope`.
use Rattle.std.specs.Prelude.{ℕ, List, [], ◌∷◌}
use Rattle.std.specs.List.{concat, flat_map}
use Rattle.metric_contents.specs.declared.contents.Meter.{Meter}
use Rattle.metric_wire.specs.Wire.{block}
use Rattle.metric_otlp.specs.Metrics.{metric_field}
use Rattle.metric_otlp.specs.Reports.{Report}
use Rattle.metric_otlp.specs.Series.{text_field}

-- a meter's name and version
unfoldable pub meter_message : Meter → List ℕ
meter_message meter = concat (text_field 1 meter.name ∷ text_field 2 meter.version ∷ [])

-- the metrics of a meter
unfoldable pub scope_message : Report → List ℕ
scope_message report = concat (
    block 1 (meter_message report.meter)
    ∷ flat_map metric_field report.streams
    ∷ text_field 3 report.meter.schema_url ∷ [])

abbrev pub scope_field : Report → List ℕ
scope_field report = block 2 (scope_message report)
