-- The names of the fields of each table.
use Rattle.std.specs.Prelude.{ℕ, codes, List, []}
use Rattle.metric_views.specs.declared.fault.ConfigField.{ConfigField}
use Rattle.metric_views.specs.declared.fault.ConfigField.TheVariants as fields
use Rattle.metric_views.specs.declared.fault.ConfigPlace.{ConfigPlace}
use Rattle.metric_views.specs.declared.fault.ConfigPlace.TheVariants as place
use Rattle.metric_views.specs.Configs.{top_fields}
use Rattle.metric_views.specs.Readers.{reader_fields}
use Rattle.metric_views.specs.Views.{view_fields}

-- # names of fields (profile) [field_name, names_at]
-- The name of each field, and those that a table has.
abbrev pub field_name : ConfigField → List ℕ
field_name fields.Unknown = []
field_name fields.Format = codes "format"
field_name fields.Reader = codes "reader"
field_name fields.View = codes "view"
field_name fields.Name = codes "name"
field_name fields.Temporality = codes "temporality"
field_name fields.Aggregation = codes "aggregation"
field_name fields.Limit = codes "limit"
field_name fields.InstrumentName = codes "instrument_name"
field_name fields.InstrumentType = codes "instrument_type"
field_name fields.InstrumentUnit = codes "instrument_unit"
field_name fields.MeterName = codes "meter_name"
field_name fields.MeterVersion = codes "meter_version"
field_name fields.MeterSchemaUrl = codes "meter_schema_url"
field_name fields.StreamName = codes "stream_name"
field_name fields.Description = codes "description"
field_name fields.Boundaries = codes "boundaries"
field_name fields.Keep = codes "keep"
field_name fields.Exclude = codes "exclude"

-- the names of the fields of a table
abbrev pub names_at : ConfigPlace → List (List ℕ)
names_at place.Top = top_fields
names_at (place.Reader number) = reader_fields
names_at (place.View number) = view_fields
