-- Whether the criteria of a view hold for an instrument of a meter, as a test that computes.
use Rattle.std.specs.Prelude.{Bool}
use Rattle.metric_contents.specs.declared.contents.Instrument.{Instrument}
use Rattle.metric_contents.specs.declared.contents.Meter.{Meter}
use Rattle.metric_views.specs.declared.config.Criteria.{Criteria}
use Rattle.metric_views.specs.Selection.{is_kind, is_text, passes}
use Rattle.metric_cert.specs.declared.reason.Criterion.{Criterion}
use Rattle.metric_cert.specs.declared.reason.Criterion.TheVariants.{InstrumentType, InstrumentUnit}
use Rattle.metric_cert.specs.declared.reason.Criterion.TheVariants.{MeterName, MeterVersion}
use Rattle.metric_cert.specs.declared.reason.Criterion.TheVariants.{MeterSchemaUrl}

-- the criterion holds, or is not given
abbrev pub holds : Criterion → Criteria → Meter → Instrument → Bool
holds InstrumentType criteria meter instrument =
    passes (λ kind. is_kind kind instrument.kind) criteria.instrument_type
holds InstrumentUnit criteria meter instrument = is_text instrument.unit criteria.instrument_unit
holds MeterName criteria meter instrument = is_text meter.name criteria.meter_name
holds MeterVersion criteria meter instrument = is_text meter.version criteria.meter_version
holds MeterSchemaUrl criteria meter instrument = is_text meter.schema_url criteria.meter_schema_url
