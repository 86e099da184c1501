-- What the tables of views are read as, up to the first fault.
use Rattle.std.specs.Prelude.{ℕ, ℤ, codes, List, [], ◌∷◌, length, Option, Some, None, Result, Ok}
use Rattle.toml.specs.Data.{Data, Members, get_member}
use Rattle.metric_base.specs.Steps.{◌>>=◌, require, require_some, each, with_fault}
use Rattle.metric_names.specs.Names.{name_of}
use Rattle.metric_glob.specs.Patterns.{pattern_of}
use Rattle.metric_table.specs.Fields.{integers_of, only, short_text_of, text_of, texts_of}
use Rattle.metric_contents.specs.declared.contents.Kind.{Kind}
use Rattle.metric_base.specs.Boundaries.{is_rising}
use Rattle.metric_contents.specs.Kinds.{kind_named}
use Rattle.metric_views.specs.declared.choices.Aggregation.{Aggregation}
use Rattle.metric_views.specs.declared.config.Criteria.{Criteria}
use Rattle.metric_views.specs.declared.config.Settings.{Settings}
use Rattle.metric_views.specs.declared.config.View.{View}
use Rattle.metric_views.specs.declared.fault.ConfigPlace.{ConfigPlace}
use Rattle.metric_views.specs.declared.fault.ConfigSpot.{ConfigSpot}
use Rattle.metric_views.specs.declared.fault.ConfigField.TheVariants as fields
use Rattle.metric_views.specs.declared.fault.ConfigPlace.TheVariants as places
use Rattle.metric_views.specs.declared.fault.ViewFault.{ViewFault}
use Rattle.metric_views.specs.declared.fault.ViewDefect.TheVariants.{WrongKind, BadPattern, BadName}
use Rattle.metric_views.specs.declared.fault.ViewDefect.TheVariants.{BadBoundaries}
use Rattle.metric_views.specs.declared.fault.ViewFault.TheVariants.{At}
use Rattle.metric_views.specs.Faults.{faults_at, field_at}
use Rattle.metric_views.specs.Readers.{aggregation_of, limit_of}

-- a pattern of instrument names
unfoldable pub pattern_at : ConfigSpot → Data → Result (List ℕ) ViewFault
pattern_at at d = do
  text ← text_of (faults_at at) d
  with_fault (λ _. At BadPattern at) (pattern_of text)

-- the name of a stream
unfoldable pub name_at : ConfigSpot → Data → Result (List ℕ) ViewFault
name_at at d = do
  text ← text_of (faults_at at) d
  with_fault (λ _. At BadName at) (name_of text)

-- a kind of instrument
unfoldable pub kind_at : ConfigSpot → Data → Result Kind ViewFault
kind_at at d = do
  text ← text_of (faults_at at) d
  require_some (kind_named text) (At WrongKind at)

-- strictly rising boundaries
unfoldable pub boundaries_at : ConfigSpot → Data → Result (List ℤ) ViewFault
boundaries_at at d = do
  boundaries ← integers_of (faults_at at) 128 d
  _ ← require (is_rising boundaries) (At BadBoundaries at)
  Ok boundaries

-- a free text
unfoldable pub text_at : ConfigSpot → Data → Result (List ℕ) ViewFault
text_at at d = short_text_of (faults_at at) d

-- a list of attribute keys
unfoldable pub keys_at : ConfigSpot → Data → Result (List (List ℕ)) ViewFault
keys_at at d = texts_of (faults_at at) 64 d

-- a value, where there is one
abbrev pub value_within : {T : Type 0} → (Data → Result T ViewFault) → Option Data
    → Result (Option T) ViewFault
value_within read None = Ok None
value_within read (Some d) = do
  value ← read d
  Ok (Some value)

-- the value of a field, where the table has it
unfoldable pub optional_field : {T : Type 0} → (Data → Result T ViewFault) → List ℕ → Members
    → Result (Option T) ViewFault
optional_field read name table = value_within read (get_member name table)

-- the criteria on the instrument
unfoldable pub instrument_criteria : ConfigPlace → Members
    → Result (Option (List ℕ) × Option Kind × Option (List ℕ)) ViewFault
instrument_criteria at table = do
  name ← optional_field (pattern_at (field_at at fields.InstrumentName)) (codes "instrument_name") table
  kind ← optional_field (kind_at (field_at at fields.InstrumentType)) (codes "instrument_type") table
  unit ← optional_field (text_at (field_at at fields.InstrumentUnit)) (codes "instrument_unit") table
  Ok (name, kind, unit)

-- the criteria on the meter
unfoldable pub meter_criteria : ConfigPlace → Members
    → Result (Option (List ℕ) × Option (List ℕ) × Option (List ℕ)) ViewFault
meter_criteria at table = do
  name ← optional_field (text_at (field_at at fields.MeterName)) (codes "meter_name") table
  version ← optional_field (text_at (field_at at fields.MeterVersion)) (codes "meter_version") table
  schema_url ← optional_field (text_at (field_at at fields.MeterSchemaUrl)) (codes "meter_schema_url") table
  Ok (name, version, schema_url)

-- the criteria of a view
unfoldable pub criteria_of : ConfigPlace → Members → Result Criteria ViewFault
criteria_of at table = do
  instrument ← instrument_criteria at table
  meter ← meter_criteria at table
  Ok (record {
    instrument_name = instrument.0;
    instrument_type = instrument.1;
    instrument_unit = instrument.2;
    meter_name = meter.0;
    meter_version = meter.1;
    meter_schema_url = meter.2;
  })

-- what a view says of the stream itself
unfoldable pub stream_settings : ConfigPlace → Members
    → Result (Option (List ℕ) × Option (List ℕ) × Option Aggregation) ViewFault
stream_settings at table = do
  name ← optional_field (name_at (field_at at fields.StreamName)) (codes "stream_name") table
  description ← optional_field (text_at (field_at at fields.Description)) (codes "description") table
  aggregation ← optional_field (aggregation_of (field_at at fields.Aggregation)) (codes "aggregation") table
  Ok (name, description, aggregation)

-- what a view says of boundaries and keys
unfoldable pub list_settings : ConfigPlace → Members
    → Result (Option (List ℤ) × Option (List (List ℕ)) × Option (List (List ℕ))) ViewFault
list_settings at table = do
  boundaries ← optional_field (boundaries_at (field_at at fields.Boundaries)) (codes "boundaries") table
  keep ← optional_field (keys_at (field_at at fields.Keep)) (codes "keep") table
  exclude ← optional_field (keys_at (field_at at fields.Exclude)) (codes "exclude") table
  Ok (boundaries, keep, exclude)

-- what a view gives its streams
unfoldable pub settings_of : ConfigPlace → Members → Result Settings ViewFault
settings_of at table = do
  stream ← stream_settings at table
  lists ← list_settings at table
  limit ← optional_field (limit_of (field_at at fields.Limit)) (codes "limit") table
  Ok (record {
    stream_name = stream.0;
    description = stream.1;
    aggregation = stream.2;
    boundaries = lists.0;
    keep = lists.1;
    exclude = lists.2;
    limit = limit;
  })

-- the fields of a view
unfoldable pub view_fields : List (List ℕ)
view_fields =
    codes "instrument_name" ∷ codes "instrument_type" ∷ codes "instrument_unit"
    ∷ codes "meter_name" ∷
    codes "meter_version" ∷ codes "meter_schema_url" ∷ codes "stream_name" ∷ codes "description" ∷
    codes "aggregation" ∷ codes "boundaries" ∷ codes "keep" ∷ codes "exclude" ∷
    codes "limit" ∷ []

-- # view (SDK, View) [view_of, views_of]
-- Criteria and settings, or the first fault.
unfoldable pub view_of : ℕ → Members → Result View ViewFault
view_of number table = do
  let at = places.View number
  _ ← only (faults_at (field_at at fields.Unknown)) view_fields table
  criteria ← criteria_of at table
  settings ← settings_of at table
  Ok (record { criteria = criteria; settings = settings })

-- the views of all tables, in order
abbrev pub views_of : List Members → Result (List View) ViewFault
views_of tables = each (λ before table. view_of (length before) table) [] tables
