-- The groups of a meter: instruments that share fields.
use Rattle.std.specs.Prelude.{ℕ, ◌-◌, Bool, not, ◌==◌, if◌then◌else◌, List, [], ◌∷◌, length, Option, Some, None}
use Rattle.std.specs.Prelude.{Result, Ok, codes, is_some}
use Rattle.std.specs.List.{enumerate_from, position_from}
use Rattle.toml.specs.Data.{Members, no_members, get_member}
use Rattle.metric_base.specs.Steps.{◌>>=◌, each, in_turn}
use Rattle.metric_table.specs.Fields.{only, tables_field}
use Rattle.metric_contents.specs.declared.contents.Instrument.{Instrument}
use Rattle.metric_contents.specs.declared.contents.Key.{Key}
use Rattle.metric_catalogue.specs.declared.shared_keys.SharedKey.{SharedKey}
use Rattle.metric_catalogue.specs.declared.fault.CatalogueFault.{CatalogueFault}
use Rattle.metric_catalogue.specs.declared.fault.CatalogueSpot.{CatalogueSpot}
use Rattle.metric_catalogue.specs.declared.fault.CatalogueField.TheVariants as fields
use Rattle.metric_catalogue.specs.declared.fault.CataloguePlace.TheVariants as place
use Rattle.metric_catalogue.specs.Faults.{entry_at, faults_at, field_at}
use Rattle.metric_catalogue.specs.Instruments.{instrument_of}
use Rattle.metric_catalogue.specs.SharedKeys.{entries_field, key_entry}

-- the fields of a group's table: its instruments, and each field of an instrument but its name
unfoldable pub group_fields : List (List ℕ)
group_fields =
    codes "instrument" ∷ codes "kind" ∷ codes "unit" ∷ codes "description" ∷ codes "range" ∷
    codes "boundaries" ∷ codes "key" ∷ codes "allowed" ∷ codes "budget" ∷ []

-- the groups of a meter, in format 3
abbrev pub groups_field : ℕ → CatalogueSpot → Members → Result (List Members) CatalogueFault
groups_field format at table =
    if format == 3 then tables_field (faults_at at) 64 (codes "group") table else Ok []

-- the table has no keys of its own
abbrev pub lacks_keys : Members → Bool
lacks_keys table = not (is_some (get_member (codes "key") table))

-- the keys of a group, told of the instrument of a number
unfoldable pub group_keys : List SharedKey → ℕ → Members → Result (List Key) CatalogueFault
group_keys shared number group = do
  entries ← entries_field 3 (field_at (place.Instrument number) fields.Key) group
  each (key_entry 3 shared number) [] entries

-- the keys that instruments take from their group: none where each has its own
abbrev pub common_keys : List SharedKey → Members → Option ℕ → Result (List Key) CatalogueFault
common_keys shared group None = Ok []
common_keys shared group (Some number) = group_keys shared number group

-- # group of instruments (profile) [with_group]
-- One more group of a meter, with its number: its instruments have its fields where they have none
-- themselves. Its keys are read once, for the first instrument that has none.
unfoldable pub with_group : List SharedKey → List Members → ℕ → List ℕ → List Instrument
    → ℕ × Members → Result (List Instrument) CatalogueFault
with_group shared recorders meter meter_name before numbered = do
  let at = entry_at (field_at (place.Meter meter) fields.Group) numbered.0
  _ ← only (faults_at at) group_fields numbered.1
  tables ← tables_field (faults_at at) (512 - length before) (codes "instrument") numbered.1
  common ← common_keys shared numbered.1 (position_from lacks_keys (length before) tables)
  each (instrument_of 3 shared recorders meter meter_name numbered.1 common) before tables

-- the instruments of a meter: its own, then those of each group
unfoldable pub instruments_added : ℕ → List SharedKey → List Members → ℕ → List ℕ → List Members
    → List Members → List Instrument → Result (List Instrument) CatalogueFault
instruments_added format shared recorders meter meter_name tables groups before = do
  own ← each (instrument_of format shared recorders meter meter_name no_members []) before tables
  in_turn (with_group shared recorders meter meter_name) own (enumerate_from 0 groups)
