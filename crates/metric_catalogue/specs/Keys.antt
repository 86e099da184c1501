-- The keys of an instrument.
use Rattle.std.specs.Prelude.{ℕ, Bool, false, not, ◌||◌, List, [], ◌∷◌, length, Option, Some, None, Result, Ok}
use Rattle.std.specs.Prelude.{codes, is_some, nat_lt, if◌then◌else◌}
use Rattle.std.specs.List.{list_any}
use Rattle.std.specs.Str.{bytes_eq}
use Rattle.toml.specs.Data.{Members}
use Rattle.metric_base.specs.Steps.{◌>>=◌, require}
use Rattle.metric_names.specs.declared.value.AttrValue.{AttrValue}
use Rattle.metric_names.specs.declared.value.AttrValue.TheVariants.{Text}
use Rattle.metric_table.specs.Fields.{only, optional_text, short_text, text_field, flag_or}
use Rattle.metric_contents.specs.declared.contents.Key.{Key}
use Rattle.metric_catalogue.specs.declared.fault.CatalogueFault.{CatalogueFault}
use Rattle.metric_catalogue.specs.declared.fault.CatalogueDefect.TheVariants.{
  ReservedKey,
  DuplicateKey,
  TooMany,
}
use Rattle.metric_catalogue.specs.declared.fault.CatalogueFault.TheVariants.{At}
use Rattle.metric_catalogue.specs.declared.fault.CataloguePlace.{CataloguePlace}
use Rattle.metric_catalogue.specs.declared.fault.CataloguePlace.TheVariants as place
use Rattle.metric_catalogue.specs.declared.fault.CatalogueSpot.{CatalogueSpot}
use Rattle.metric_catalogue.specs.declared.fault.CatalogueField.TheVariants as fields
use Rattle.metric_catalogue.specs.Faults.{faults_at, field_at}
use Rattle.metric_contents.specs.Places.{place as place_of}
use Rattle.metric_contents.specs.KeyNames.{is_key}
use Rattle.metric_catalogue.specs.KeyValues.{values_field}
use Rattle.metric_catalogue.specs.Texts.{label_of}

-- the fields of a key's table
unfoldable pub key_fields : List (List ℕ)
key_fields = codes "name" ∷ codes "values" ∷ codes "optional" ∷ []

-- a key has no other fields
unfoldable pub only_key_fields : CataloguePlace → Members → Result (Unit {0}) CatalogueFault
only_key_fields at table = only (faults_at (field_at at fields.Unknown)) key_fields table

-- the name of a key, which is not that of the overflow attribute
unfoldable pub key_name : CataloguePlace → List ℕ → Result (List ℕ) CatalogueFault
key_name table_at text = do
  let at = field_at table_at fields.Name
  name ← label_of at text
  _ ← require (not (bytes_eq name (codes "otel.metric.overflow"))) (At ReservedKey at)
  Ok name

-- whether a recording may leave the key out
unfoldable pub optional_field : CatalogueSpot → Members → Result Bool CatalogueFault
optional_field at table = flag_or (faults_at at) (codes "optional") false table

-- # values with a fallback (profile)
-- The values of a key, and first the text that stands for all others, unless it is among them.
abbrev pub values_with : CatalogueSpot → List AttrValue → Option (List ℕ)
    → Result (List AttrValue) CatalogueFault
values_with at values None = Ok values
values_with at values (Some other) = do
  short ← short_text (faults_at at) other
  let is_among = is_some (place_of values (Text short))
  _ ← require (is_among || nat_lt (length values) 1000) (At TooMany at)
  Ok (if is_among then values else Text short ∷ values)

-- what a key of this name declares; that a table may have a fallback, its fields say
unfoldable pub key_named : ℕ → CataloguePlace → List ℕ → Members → Result Key CatalogueFault
key_named format at text table = do
  name ← key_name at text
  values ← values_field format (field_at at fields.Values) table
  other ← optional_text (faults_at (field_at at fields.Other)) (codes "other") table
  all ← values_with (field_at at fields.Other) values other
  optional ← optional_field (field_at at fields.Optional) table
  Ok (record { name = name; values = all; optional = optional })

-- # key of an instrument (profile) [key_of, key_named]
-- Its name, its distinct values, whether it may be left out.
unfoldable pub key_of : ℕ → ℕ → List Key → Members → Result Key CatalogueFault
key_of format instrument before table = do
  let at = place.Key instrument (length before)
  _ ← only_key_fields at table
  text ← text_field (faults_at (field_at at fields.Name)) (codes "name") table
  key ← key_named format at text table
  _ ← require (not (list_any (is_key key.name) before)) (At DuplicateKey (field_at at fields.Name))
  Ok key
