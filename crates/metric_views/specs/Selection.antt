-- Which instruments a view selects.
use Rattle.std.specs.Prelude.{◌≡◌, ℕ, Bool, true, false, ◌&&◌, List, Option, Some, None, IfSome}
use Rattle.std.specs.Str.{bytes_eq}
use Rattle.metric_glob.specs.Matching.{Matches, is_match}
use Rattle.metric_contents.specs.declared.contents.Instrument.{Instrument}
use Rattle.metric_contents.specs.declared.contents.Kind.{Kind}
use Rattle.metric_contents.specs.declared.contents.Kind.TheVariants.{Counter, UpDownCounter}
use Rattle.metric_contents.specs.declared.contents.Kind.TheVariants.{Histogram, Gauge}
use Rattle.metric_contents.specs.declared.contents.Meter.{Meter}
use Rattle.metric_views.specs.declared.config.Criteria.{Criteria}

-- # selects (SDK, instrument selection criteria)
-- Every criterion that a view gives holds.
pub record Selects (criteria : Criteria) (meter : Meter) (instrument : Instrument) : Type 0 where
  pub instrument_name : IfSome criteria.instrument_name (λ pattern. Matches pattern instrument.name)
  pub instrument_type : IfSome criteria.instrument_type (λ kind. kind ≡ instrument.kind)
  pub instrument_unit : IfSome criteria.instrument_unit (λ unit. unit ≡ instrument.unit)
  pub meter_name : IfSome criteria.meter_name (λ name. name ≡ meter.name)
  pub meter_version : IfSome criteria.meter_version (λ version. version ≡ meter.version)
  pub meter_schema_url : IfSome criteria.meter_schema_url (λ url. url ≡ meter.schema_url)

-- a criterion that is given passes a test
abbrev pub passes : {T : Type 0} → (T → Bool) → Option T → Bool
passes test None = true
passes test (Some x) = test x

abbrev pub is_kind : Kind → Kind → Bool
is_kind Counter Counter = true
is_kind UpDownCounter UpDownCounter = true
is_kind Histogram Histogram = true
is_kind Gauge Gauge = true
is_kind _ _ = false

-- a text criterion is this text
abbrev pub is_text : List ℕ → Option (List ℕ) → Bool
is_text own criterion = passes (λ text. bytes_eq text own) criterion

-- the same as a test that computes
unfoldable pub selects_instrument : Criteria → Instrument → Bool
selects_instrument criteria instrument =
    passes (λ pattern. is_match pattern instrument.name) criteria.instrument_name
    && (passes (λ kind. is_kind kind instrument.kind) criteria.instrument_type
    && is_text instrument.unit criteria.instrument_unit)

unfoldable pub selects_meter : Criteria → Meter → Bool
selects_meter criteria meter =
    is_text meter.name criteria.meter_name && (is_text meter.version criteria.meter_version
    && is_text meter.schema_url criteria.meter_schema_url)

unfoldable pub selects : Criteria → Meter → Instrument → Bool
selects criteria meter instrument =
    selects_instrument criteria instrument && selects_meter criteria meter
