-- The meters of a catalogue, with the instruments of each.
use Rattle.std.specs.Prelude.{ℕ, ◌-◌, ◌==◌, Bool, true, false, not, ◌&&◌, List, [], ◌∷◌, ◌++◌, length, Result, Ok}
use Rattle.std.specs.Prelude.{codes}
use Rattle.std.specs.List.{list_any}
use Rattle.std.specs.Str.{bytes_eq}
use Rattle.toml.specs.Data.{Members}
use Rattle.metric_base.specs.Steps.{◌>>=◌, require}
use Rattle.metric_table.specs.Fields.{only, tables_field}
use Rattle.metric_contents.specs.declared.contents.Meter.{Meter}
use Rattle.metric_catalogue.specs.declared.meters.Metered.{Metered}
use Rattle.metric_catalogue.specs.declared.shared_keys.SharedKey.{SharedKey}
use Rattle.metric_catalogue.specs.declared.fault.CatalogueFault.{CatalogueFault}
use Rattle.metric_catalogue.specs.declared.fault.CatalogueDefect.TheVariants.{DuplicateMeter}
use Rattle.metric_catalogue.specs.declared.fault.CatalogueFault.TheVariants.{At}
use Rattle.metric_catalogue.specs.declared.fault.CataloguePlace.{CataloguePlace}
use Rattle.metric_catalogue.specs.declared.fault.CatalogueField.TheVariants as fields
use Rattle.metric_catalogue.specs.declared.fault.CataloguePlace.TheVariants as place
use Rattle.metric_catalogue.specs.Faults.{faults_at, field_at}
use Rattle.metric_catalogue.specs.Groups.{groups_field, instruments_added}
use Rattle.metric_catalogue.specs.Texts.{needed_text, free_text}

-- the fields of a meter's table
unfoldable pub meter_fields : List (List ℕ)
meter_fields = codes "name" ∷ codes "version" ∷ codes "schema_url" ∷ codes "instrument" ∷ []

-- those of format 3
unfoldable pub shared_meter_fields : List (List ℕ)
shared_meter_fields =
    codes "name" ∷ codes "version" ∷ codes "schema_url" ∷ codes "instrument" ∷ codes "group" ∷ []

abbrev pub meter_names : Bool → List (List ℕ)
meter_names true = shared_meter_fields
meter_names false = meter_fields

-- a meter has no other fields
unfoldable pub only_meter_fields : Bool → CataloguePlace → Members
    → Result (Unit {0}) CatalogueFault
only_meter_fields is_shared at table =
    only (faults_at (field_at at fields.Unknown)) (meter_names is_shared) table

-- a meter without its instruments
unfoldable pub meter_of : Bool → CataloguePlace → Members → Result Meter CatalogueFault
meter_of is_shared at table = do
  _ ← only_meter_fields is_shared at table
  name ← needed_text (field_at at fields.Name) (codes "name") table
  version ← free_text (field_at at fields.Version) (codes "version") table
  schema_url ← free_text (field_at at fields.SchemaUrl) (codes "schema_url") table
  Ok (record { name = name; version = version; schema_url = schema_url })

-- the two meters have the same name, version and schema URL
abbrev pub is_meter : Meter → Meter → Bool
is_meter meter other =
    bytes_eq other.name meter.name
    && (bytes_eq other.version meter.version && bytes_eq other.schema_url meter.schema_url)

-- one more meter with its instruments in a file of this format, which has at most 512, and these
-- tables of recorders
unfoldable pub with_meter : ℕ → List SharedKey → List Members → Metered → Members
    → Result Metered CatalogueFault
with_meter format shared recorders before table = do
  let at = place.Meter (length before.meters)
  meter ← meter_of (format == 3) at table
  tables ← tables_field (faults_at (field_at at fields.Instrument))
      (512 - length before.instruments) (codes "instrument") table
  groups ← groups_field format (field_at at fields.Group) table
  _ ← require (not (list_any (is_meter meter) before.meters))
      (At DuplicateMeter (field_at at fields.Name))
  instruments ← instruments_added format shared recorders (length before.meters) meter.name tables
      groups before.instruments
  Ok (record { meters = before.meters ++ meter ∷ []; instruments = instruments })
