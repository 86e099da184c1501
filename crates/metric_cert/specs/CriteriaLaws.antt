-- The test of a criterion is true exactly where the criterion holds.
use Rattle.std.proofs.Common.{◌≡◌, Decides}
use Rattle.metric_contents.specs.declared.contents.Instrument.{Instrument}
use Rattle.metric_contents.specs.declared.contents.Meter.{Meter}
use Rattle.metric_views.specs.declared.config.Criteria.{Criteria}
use Rattle.metric_views.specs.Selection.{is_kind}
use Rattle.metric_views.specs.SelectionLaws.{is_kind-Decides, is_text-Decides, passes-Decides}
use Rattle.metric_cert.specs.declared.reason.Criterion.{Criterion}
use Rattle.metric_cert.specs.declared.reason.Criterion.TheVariants.{InstrumentType, InstrumentUnit}
use Rattle.metric_cert.specs.declared.reason.Criterion.TheVariants.{MeterName, MeterVersion}
use Rattle.metric_cert.specs.declared.reason.Criterion.TheVariants.{MeterSchemaUrl}
use Rattle.metric_cert.specs.Criteria.{holds}
use Rattle.metric_cert.specs.Valid.{Holds}

pub holds-Decides : (criterion : Criterion) (criteria : Criteria) (meter : Meter)
    (instrument : Instrument)
    → Decides (holds criterion criteria meter instrument)
    (Holds criterion criteria meter instrument)
holds-Decides InstrumentType criteria meter instrument =
    passes-Decides (λ kind. is_kind kind instrument.kind) (λ kind. kind ≡ instrument.kind)
    (λ kind. is_kind-Decides kind instrument.kind) criteria.instrument_type
holds-Decides InstrumentUnit criteria meter instrument =
    is_text-Decides instrument.unit criteria.instrument_unit
holds-Decides MeterName criteria meter instrument = is_text-Decides meter.name criteria.meter_name
holds-Decides MeterVersion criteria meter instrument =
    is_text-Decides meter.version criteria.meter_version
holds-Decides MeterSchemaUrl criteria meter instrument =
    is_text-Decides meter.schema_url criteria.meter_schema_url

pub ruleset holding = (holds-Decides)
