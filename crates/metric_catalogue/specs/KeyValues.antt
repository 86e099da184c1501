-- The values of a key.
use Rattle.std.specs.Prelude.{ℕ, ℤ, pos, ◌+◌, ◌-ℤ◌, ◌+ℤ◌, not, ◌==◌, int_le, nat_le, nat_lt, unsigned_abs}
use Rattle.std.specs.Prelude.{List, [], ◌∷◌, ◌++◌, length, map, Result, Ok, Err, codes, if◌then◌else◌}
use Rattle.std.specs.List.{range_with_len}
use Rattle.toml.specs.Data.{Data, string, integer, boolean, table as table_data, Members}
use Rattle.metric_base.specs.Steps.{◌>>=◌, require, in_turn}
use Rattle.metric_names.specs.declared.value.AttrValue.{AttrValue}
use Rattle.metric_names.specs.declared.value.AttrValue.TheVariants.{Text, Whole, Flag}
use Rattle.metric_table.specs.Fields.{only, field, list_of, short_text}
use Rattle.metric_catalogue.specs.declared.values.Listing.{Listing}
use Rattle.metric_catalogue.specs.declared.fault.CatalogueFault.{CatalogueFault}
use Rattle.metric_catalogue.specs.declared.fault.CatalogueDefect.TheVariants.{
  MissingField,
  WrongKind,
  BadRange,
  DuplicateValue,
  TooMany,
}
use Rattle.metric_catalogue.specs.declared.fault.CatalogueFault.TheVariants.{At}
use Rattle.metric_catalogue.specs.declared.fault.CatalogueSpot.{CatalogueSpot}
use Rattle.metric_catalogue.specs.Faults.{entry_at, faults_at}
use Rattle.metric_contents.specs.Places.{has_repeat}
use Rattle.metric_catalogue.specs.Recorders.{number_field}

-- an attribute value: a text that is not too long, a whole number or a flag
abbrev pub value_at : CatalogueSpot → Data → Result AttrValue CatalogueFault
value_at at (string text) = do
  short ← short_text (faults_at at) text
  Ok (Text short)
value_at at (integer number) = Ok (Whole number)
value_at at (boolean flag) = Ok (Flag flag)
value_at at _ = Err (At WrongKind at)

-- the fields of a range among the values
unfoldable pub span_fields : List (List ℕ)
span_fields = codes "from" ∷ codes "to" ∷ []

-- the first and the last number of a range, of a table with no other fields
unfoldable pub span_of : CatalogueSpot → Members → Result (ℤ × ℤ) CatalogueFault
span_of at table = do
  _ ← only (faults_at at) span_fields table
  first ← number_field at (codes "from") table
  last ← number_field at (codes "to") table
  _ ← require (int_le first last) (At BadRange at)
  Ok (first, last)

-- how many whole numbers there are from the first to the last
abbrev pub span_length : ℤ × ℤ → ℕ
span_length span = unsigned_abs (span.1 -ℤ span.0) + 1

-- the whole number so many places after the first
abbrev pub nth_from : ℤ → ℕ → AttrValue
nth_from first place = Whole (first +ℤ pos place)

-- # range among the values of a key (profile) [span_of, spread]
-- Each whole number from its first to its last.
abbrev pub spread : ℤ × ℤ → List AttrValue
spread span = map (nth_from span.0) (range_with_len 0 (span_length span))

-- the values before, and those of a range, of which there are at most 1,000 in all
unfoldable pub with_span : CatalogueSpot → CatalogueSpot → List AttrValue → Members
    → Result (List AttrValue) CatalogueFault
with_span list at before table = do
  span ← span_of at table
  _ ← require (nat_le (length before + span_length span) 1000) (At TooMany list)
  Ok (before ++ spread span)

-- the values before, and one more
unfoldable pub with_value : CatalogueSpot → CatalogueSpot → List AttrValue → Data
    → Result (List AttrValue) CatalogueFault
with_value list at before d = do
  value ← value_at at d
  _ ← require (nat_lt (length before) 1000) (At TooMany list)
  Ok (before ++ value ∷ [])

-- a table is a range in format 3, and no value before it
abbrev pub with_table : ℕ → CatalogueSpot → CatalogueSpot → List AttrValue → Members
    → Result (List AttrValue) CatalogueFault
with_table format list at before table =
    if format == 3 then with_span list at before table else Err (At WrongKind at)

abbrev pub with_values : ℕ → CatalogueSpot → CatalogueSpot → List AttrValue → Data
    → Result (List AttrValue) CatalogueFault
with_values format list at before (table_data table) = with_table format list at before table
with_values format list at before d = with_value list at before d

abbrev pub nothing_listed : Listing
nothing_listed = record { entries = 0; values = [] }

-- the values of one more entry, after those before it
unfoldable pub with_entry : ℕ → CatalogueSpot → Listing → Data → Result Listing CatalogueFault
with_entry format at before d = do
  values ← with_values format at (entry_at at before.entries) before.values d
  Ok (record { entries = before.entries + 1; values = values })

-- the values that the entries of a list stand for
unfoldable pub values_listed : ℕ → CatalogueSpot → List Data
    → Result (List AttrValue) CatalogueFault
values_listed format at entries = do
  listing ← in_turn (with_entry format at) nothing_listed entries
  Ok listing.values

-- a list of values that is not empty
unfoldable pub some_values : ℕ → CatalogueSpot → Members → Result (List AttrValue) CatalogueFault
some_values format at table = do
  d ← field (faults_at at) (codes "values") table
  entries ← list_of (faults_at at) 1000 d
  _ ← require (not (length entries == 0)) (At MissingField at)
  values_listed format at entries

-- # values of a key (profile) [values_field, with_values]
-- Those that the entries of its list stand for, at most 1,000, of which none stands twice.
unfoldable pub values_field : ℕ → CatalogueSpot → Members → Result (List AttrValue) CatalogueFault
values_field format at table = do
  values ← some_values format at table
  _ ← require (not (has_repeat values)) (At DuplicateValue at)
  Ok values
