-- The keys that a file declares once, each under an id, and the keys of an instrument, which may name them.
use Rattle.std.specs.Prelude.{ℕ, Bool, true, false, not, ◌||◌, ◌==◌, List, [], ◌∷◌, length, Option, Some, None}
use Rattle.std.specs.Prelude.{Result, Ok, Err, codes, unwrap_or}
use Rattle.std.specs.List.{find, list_all, list_any}
use Rattle.std.specs.Str.{bytes_eq}
use Rattle.toml.specs.Data.{Data, string, table as table_data, Members, get_member}
use Rattle.metric_base.specs.Steps.{◌>>=◌, require, require_some}
use Rattle.metric_table.specs.Fields.{only, list_of, optional_text}
use Rattle.metric_contents.specs.declared.contents.Key.{Key}
use Rattle.metric_contents.specs.KeyNames.{is_key}
use Rattle.metric_catalogue.specs.declared.shared_keys.SharedKey.{SharedKey}
use Rattle.metric_catalogue.specs.declared.fault.CatalogueFault.{CatalogueFault}
use Rattle.metric_catalogue.specs.declared.fault.CatalogueDefect.TheVariants.{WrongKind, DuplicateKey, UnknownKey}
use Rattle.metric_catalogue.specs.declared.fault.CatalogueFault.TheVariants.{At}
use Rattle.metric_catalogue.specs.declared.fault.CataloguePlace.{CataloguePlace}
use Rattle.metric_catalogue.specs.declared.fault.CataloguePlace.TheVariants as place
use Rattle.metric_catalogue.specs.declared.fault.CatalogueSpot.{CatalogueSpot}
use Rattle.metric_catalogue.specs.declared.fault.CatalogueField.TheVariants as fields
use Rattle.metric_catalogue.specs.Faults.{entry_at, faults_at, field_at}
use Rattle.metric_catalogue.specs.Keys.{key_named, key_of}
use Rattle.metric_catalogue.specs.Texts.{label_field}

-- the fields of a key that is declared once
unfoldable pub shared_fields : List (List ℕ)
shared_fields =
    codes "id" ∷ codes "name" ∷ codes "values" ∷ codes "other" ∷ codes "optional" ∷ []

-- the key has this id
abbrev pub has_id : List ℕ → SharedKey → Bool
has_id id shared = bytes_eq shared.id id

-- the id of a key, of a table with no other fields
unfoldable pub key_id : CataloguePlace → Members → Result (List ℕ) CatalogueFault
key_id at table = do
  _ ← only (faults_at (field_at at fields.Unknown)) shared_fields table
  label_field (field_at at fields.Id) (codes "id") table

-- # key that is declared once (profile)
-- Its id, which no earlier one has and which is its name where none is given, and what it declares.
unfoldable pub shared_key : List SharedKey → Members → Result SharedKey CatalogueFault
shared_key before table = do
  let at = place.SharedKey (length before)
  id ← key_id at table
  _ ← require (not (list_any (has_id id) before)) (At DuplicateKey (field_at at fields.Id))
  text ← optional_text (faults_at (field_at at fields.Name)) (codes "name") table
  key ← key_named 3 at (unwrap_or text id) table
  Ok (record { id = id; key = key })

abbrev pub is_table : Data → Bool
is_table (table_data _) = true
is_table _ = false

-- the values of a list of at most 8, where there is one
abbrev pub entries_within : CatalogueSpot → Option Data → Result (List Data) CatalogueFault
entries_within at None = Ok []
entries_within at (Some d) = list_of (faults_at at) 8 d

-- # keys of an instrument (profile) [entries_field, key_entry]
-- Tables; in format 3 also ids, each that of a key which is declared once.
unfoldable pub entries_field : ℕ → CatalogueSpot → Members → Result (List Data) CatalogueFault
entries_field format at table = do
  entries ← entries_within at (get_member (codes "key") table)
  _ ← require (format == 3 || list_all is_table entries) (At WrongKind at)
  Ok entries

-- the key of an id, unless an earlier key has its name
unfoldable pub key_by_id : CatalogueSpot → List SharedKey → List Key → List ℕ
    → Result Key CatalogueFault
key_by_id at shared before id = do
  found ← require_some (find (has_id id) shared) (At UnknownKey at)
  _ ← require (not (list_any (is_key found.key.name) before)) (At DuplicateKey at)
  Ok found.key

-- an entry of the keys of the instrument of a number
abbrev pub entry_place : ℕ → List Key → CatalogueSpot
entry_place instrument before =
    entry_at (field_at (place.Instrument instrument) fields.Key) (length before)

abbrev pub key_entry : ℕ → List SharedKey → ℕ → List Key → Data → Result Key CatalogueFault
key_entry format shared instrument before (table_data table) =
    key_of format instrument before table
key_entry format shared instrument before (string id) =
    key_by_id (entry_place instrument before) shared before id
key_entry format shared instrument before _ = Err (At WrongKind (entry_place instrument before))
