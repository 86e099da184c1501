-- The instruments of a meter.
use Rattle.std.specs.Prelude.{ℕ, ℤ, pos, Bool, not, ◌&&◌, ◌||◌, ◌==◌, if◌then◌else◌, List, [], ◌∷◌}
use Rattle.std.specs.Prelude.{length, Option, Some, None, Result, Ok, Err, int_le, is_some, unwrap_or, codes}
use Rattle.std.specs.List.{list_any}
use Rattle.std.specs.Str.{bytes_eq}
use Rattle.toml.specs.Data.{Data, Members, get_member}
use Rattle.metric_base.specs.Steps.{◌>>=◌, require, require_some, with_fault, each}
use Rattle.metric_names.specs.Names.{folded, name_of}
use Rattle.metric_names.specs.Units.{unit_of}
use Rattle.metric_table.specs.Fields.{only, field, text_field, optional_text, list_of, integer_of}
use Rattle.metric_table.specs.Fields.{integers_of}
use Rattle.metric_contents.specs.declared.contents.Instrument.{Instrument}
use Rattle.metric_contents.specs.declared.contents.Key.{Key}
use Rattle.metric_contents.specs.declared.contents.Kind.{Kind}
use Rattle.metric_catalogue.specs.declared.instruments.Head.{Head}
use Rattle.metric_catalogue.specs.declared.instruments.Limits.{Limits}
use Rattle.metric_catalogue.specs.declared.fault.CatalogueFault.{CatalogueFault}
use Rattle.metric_catalogue.specs.declared.fault.CatalogueDefect.TheVariants.{
  WrongKind,
  BadName,
  BadUnit,
  BadRange,
  BadBoundaries,
  DuplicateInstrument,
}
use Rattle.metric_catalogue.specs.declared.fault.CatalogueFault.TheVariants.{At}
use Rattle.metric_catalogue.specs.declared.fault.CataloguePlace.{CataloguePlace}
use Rattle.metric_catalogue.specs.declared.fault.CatalogueSpot.{CatalogueSpot}
use Rattle.metric_catalogue.specs.declared.fault.CatalogueField.TheVariants as fields
use Rattle.metric_catalogue.specs.declared.fault.CataloguePlace.TheVariants as place
use Rattle.metric_base.specs.Boundaries.{is_rising}
use Rattle.metric_catalogue.specs.Allowed.{allowed_field, allowed_of}
use Rattle.metric_catalogue.specs.Faults.{faults_at, field_at, pair_faults_at}
use Rattle.metric_catalogue.specs.Holding.{holder}
use Rattle.metric_contents.specs.Kinds.{kind_named, is_monotonic}
use Rattle.metric_catalogue.specs.Recorders.{amount_from}
use Rattle.metric_catalogue.specs.SharedKeys.{entries_field, key_entry}
use Rattle.metric_catalogue.specs.declared.shared_keys.SharedKey.{SharedKey}
use Rattle.metric_catalogue.specs.Texts.{free_text}
use Rattle.metric_catalogue.specs.Unsaid.{unsaid}

-- the name of the field of a spare budget
abbrev pub spare_name : ℕ → List ℕ
spare_name format = if format == 3 then codes "budget" else codes "spare"

abbrev pub spare_spot : ℕ → CataloguePlace → CatalogueSpot
spare_spot format at =
    if format == 3 then field_at at fields.Budget else field_at at fields.Spare

-- the fields of an instrument's table in this format
unfoldable pub instrument_fields : ℕ → List (List ℕ)
instrument_fields format =
    codes "name" ∷ codes "kind" ∷ codes "unit" ∷ codes "description" ∷
    codes "range" ∷ codes "boundaries" ∷ codes "key"
    ∷ (if format == 1 then [] else codes "allowed" ∷ spare_name format ∷ [])

-- an instrument has no other fields
unfoldable pub only_instrument_fields : ℕ → CataloguePlace → Members
    → Result (Unit {0}) CatalogueFault
only_instrument_fields format at table =
    only (faults_at (field_at at fields.Unknown)) (instrument_fields format) table

-- the name of an instrument, of a table with no other fields
unfoldable pub instrument_name : ℕ → CataloguePlace → Members → Result (List ℕ) CatalogueFault
instrument_name format table_at table = do
  _ ← only_instrument_fields format table_at table
  let at = field_at table_at fields.Name
  text ← text_field (faults_at at) (codes "name") table
  with_fault (λ _. At BadName at) (name_of text)

-- the kind of an instrument
unfoldable pub kind_field : CataloguePlace → Members → Members → Result Kind CatalogueFault
kind_field table_at group table = do
  let at = field_at table_at fields.Kind
  text ← text_field (faults_at at) (codes "kind") (holder (codes "kind") group table)
  require_some (kind_named text) (At WrongKind at)

-- the unit of an instrument, empty where it is left out
unfoldable pub unit_field : CataloguePlace → Members → Members
    → Result (List ℕ) CatalogueFault
unit_field table_at group table = do
  let at = field_at table_at fields.Unit
  text ← optional_text (faults_at at) (codes "unit") (holder (codes "unit") group table)
  with_fault (λ _. At BadUnit at) (unit_of (unwrap_or text []))

-- the description of an instrument, empty where it is left out
abbrev pub description_field : CataloguePlace → Members → Members
    → Result (List ℕ) CatalogueFault
description_field at group table =
    free_text (field_at at fields.Description) (codes "description")
    (holder (codes "description") group table)

-- what names and describes an instrument, in its table or that of its group
unfoldable pub head_of : ℕ → CataloguePlace → Members → Members → Result Head CatalogueFault
head_of format at group table = do
  name ← instrument_name format at table
  kind ← kind_field at group table
  unit ← unit_field at group table
  description ← description_field at group table
  Ok (record { name = name; kind = kind; unit = unit; description = description })

-- two whole numbers
abbrev pub pair_of : CatalogueSpot → List Data → Result (ℤ × ℤ) CatalogueFault
pair_of at (lo ∷ hi ∷ []) = do
  low ← integer_of (faults_at at) lo
  high ← integer_of (faults_at at) hi
  Ok (low, high)
pair_of at _ = Err (At WrongKind at)

-- a range is not empty, and has no negative value where sums only rise
abbrev pub is_range : Kind → ℤ × ℤ → Bool
is_range kind range = int_le range.0 range.1 && (not (is_monotonic kind) || int_le (pos 0) range.0)

-- the two numbers of a range
unfoldable pub pair_field : CatalogueSpot → Members → Result (ℤ × ℤ) CatalogueFault
pair_field at table = do
  d ← field (faults_at at) (codes "range") table
  values ← list_of (pair_faults_at at) 2 d
  pair_of at values

-- the range of an instrument's values
unfoldable pub range_field : CataloguePlace → Kind → Members → Members
    → Result (ℤ × ℤ) CatalogueFault
range_field table_at kind group table = do
  let at = field_at table_at fields.Range
  range ← pair_field at (holder (codes "range") group table)
  _ ← require (is_range kind range) (At BadRange at)
  Ok range

-- boundaries that rise
unfoldable pub boundaries_of : CatalogueSpot → Data → Result (List ℤ) CatalogueFault
boundaries_of at d = do
  boundaries ← integers_of (faults_at at) 128 d
  _ ← require (is_rising boundaries) (At BadBoundaries at)
  Ok boundaries

-- boundaries, where there are any
abbrev pub boundaries_within : CatalogueSpot → Option Data
    → Result (Option (List ℤ)) CatalogueFault
boundaries_within at None = Ok None
boundaries_within at (Some d) = do
  boundaries ← boundaries_of at d
  Ok (Some boundaries)

-- the advised boundaries of an instrument
unfoldable pub advice_field : CataloguePlace → Members → Members
    → Result (Option (List ℤ)) CatalogueFault
advice_field at group table =
    boundaries_within (field_at at fields.Boundaries)
    (get_member (codes "boundaries") (holder (codes "boundaries") group table))

-- the instrument is of this meter and has this name without ASCII case
abbrev pub is_instrument : ℕ → List ℕ → Instrument → Bool
is_instrument meter name instrument =
    (instrument.meter == meter) && bytes_eq (folded instrument.name) (folded name)

-- a spare budget, another number where there is none
abbrev pub spare_within : CatalogueSpot → ℕ → Option Data → Result ℕ CatalogueFault
spare_within at otherwise None = Ok otherwise
spare_within at otherwise (Some d) = do
  number ← integer_of (faults_at at) d
  require_some (amount_from number) (At BadRange at)

-- # spare budget of an instrument (profile)
-- The whole number that its table gives in `spare`, in format 3 in `budget`; another number where
-- it gives none.
unfoldable pub spare_field : ℕ → ℕ → CataloguePlace → Members → Members
    → Result ℕ CatalogueFault
spare_field format otherwise at group table =
    spare_within (spare_spot format at) otherwise
    (get_member (spare_name format) (holder (spare_name format) group table))

-- the keys of an instrument: those of its table's entries, or where it has none, those of its group
abbrev pub keys_for : ℕ → List SharedKey → ℕ → List Key → Members → List Data
    → Result (List Key) CatalogueFault
keys_for format shared number common table entries =
    if is_some (get_member (codes "key") table)
    then each (key_entry format shared number) [] entries else Ok common

-- what limits the recordings of the instrument of a number: its keys, the combinations of their values that it
-- allows where it lists them, and its spare budget, unless its name is taken
unfoldable pub limits_field : ℕ → List SharedKey → ℕ → Bool → ℕ → Members → List Key → Members
    → Result Limits CatalogueFault
limits_field format shared number is_taken otherwise group common table = do
  let at = place.Instrument number
  entries ← entries_field format (field_at at fields.Key) table
  rows ← allowed_field (field_at at fields.Allowed) group table
  spare ← spare_field format otherwise at group table
  _ ← require (not is_taken) (At DuplicateInstrument (field_at at fields.Name))
  keys ← keys_for format shared number common table entries
  allowed ← allowed_of (field_at at fields.Allowed) keys rows
  Ok (record { keys = keys; allowed = allowed; spare = spare })

-- # instruments of a meter (API, Instrument)
-- One table after another, each with those before it in sight; of the meter of a number and a name,
-- beside the tables of recorders, which may say a budget for it; with the fields and the keys of its
-- group where it has none itself.
unfoldable pub instrument_of : ℕ → List SharedKey → List Members → ℕ → List ℕ → Members
    → List Key → List Instrument → Members → Result Instrument CatalogueFault
instrument_of format shared recorders meter meter_name group common before table = do
  let at = place.Instrument (length before)
  head ← head_of format at group table
  range ← range_field at head.kind group table
  advice ← advice_field at group table
  let otherwise = unsaid format recorders meter_name head.name head.kind range
  limits ← limits_field format shared (length before)
      (list_any (is_instrument meter head.name) before) otherwise group common table
  Ok (record {
    meter = meter;
    name = head.name;
    kind = head.kind;
    unit = head.unit;
    description = head.description;
    lo = range.0;
    hi = range.1;
    advice = advice;
    keys = limits.keys;
    allowed = limits.allowed;
    spare = limits.spare;
  })
