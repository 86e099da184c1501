-- The names of the fields of each table.
use Rattle.std.specs.Prelude.{ℕ, codes, List, [], ◌==◌, if◌then◌else◌}
use Rattle.metric_catalogue.specs.declared.fault.CatalogueField.{CatalogueField}
use Rattle.metric_catalogue.specs.declared.fault.CatalogueField.TheVariants as fields
use Rattle.metric_catalogue.specs.declared.fault.CataloguePlace.{CataloguePlace}
use Rattle.metric_catalogue.specs.declared.fault.CataloguePlace.TheVariants as place
use Rattle.metric_catalogue.specs.Catalogues.{top_names}
use Rattle.metric_catalogue.specs.Meters.{meter_names}
use Rattle.metric_catalogue.specs.Groups.{group_fields}
use Rattle.metric_catalogue.specs.Instruments.{instrument_fields}
use Rattle.metric_catalogue.specs.Keys.{key_fields}
use Rattle.metric_catalogue.specs.KeyValues.{span_fields}
use Rattle.metric_catalogue.specs.Recorders.{budget_fields, recorder_fields}
use Rattle.metric_catalogue.specs.Seats.{seat_fields}
use Rattle.metric_catalogue.specs.SharedKeys.{shared_fields}

-- # names of fields (profile) [field_name, names_at, names_in]
-- The name of each field, and those that a table has in a format.
abbrev pub field_name : CatalogueField → List ℕ
field_name fields.Unknown = []
field_name fields.Format = codes "format"
field_name fields.Id = codes "id"
field_name fields.Meter = codes "meter"
field_name fields.Recorder = codes "recorder"
field_name fields.Name = codes "name"
field_name fields.Version = codes "version"
field_name fields.SchemaUrl = codes "schema_url"
field_name fields.Instrument = codes "instrument"
field_name fields.Group = codes "group"
field_name fields.Kind = codes "kind"
field_name fields.Unit = codes "unit"
field_name fields.Description = codes "description"
field_name fields.Range = codes "range"
field_name fields.Boundaries = codes "boundaries"
field_name fields.Key = codes "key"
field_name fields.Allowed = codes "allowed"
field_name fields.Spare = codes "spare"
field_name fields.Values = codes "values"
field_name fields.Other = codes "other"
field_name fields.Optional = codes "optional"
field_name fields.Count = codes "count"
field_name fields.Budget = codes "budget"
field_name fields.Amount = codes "amount"

-- the names of the fields of a table in this format
abbrev pub names_at : ℕ → CataloguePlace → List (List ℕ)
names_at format place.Top = top_names (format == 3)
names_at format (place.Meter number) = meter_names (format == 3)
names_at format (place.Instrument number) = instrument_fields format
names_at format (place.Key number key) = key_fields
names_at format (place.SharedKey number) = shared_fields
names_at format (place.Recorder number) = if format == 3 then seat_fields else recorder_fields
names_at format (place.Budget number budget) = budget_fields

-- the names of the fields of a table that stands in the list of a field
abbrev pub names_in : CatalogueField → List (List ℕ)
names_in fields.Values = span_fields
names_in fields.Group = group_fields
names_in _ = []
