-- The catalogue that a text is, or its first fault.
use Rattle.std.specs.Prelude.{ℕ, pos, Bool, true, false, ◌==◌, List, [], ◌∷◌, map, length, Option, Some, None}
use Rattle.std.specs.Prelude.{Result, Ok, codes, if◌then◌else◌}
use Rattle.std.specs.Ordering.{int_eq}
use Rattle.toml.specs.Data.{Data, integer, Members, get_member}
use Rattle.toml.specs.Parse.{parse_document}
use Rattle.metric_base.specs.Steps.{◌>>=◌, require_some, in_turn, each}
use Rattle.metric_table.specs.Fields.{only, format_up_to, tables_field}
use Rattle.metric_contents.specs.declared.contents.Contents.{Contents}
use Rattle.metric_contents.specs.declared.contents.Recorder.{Recorder}
use Rattle.metric_catalogue.specs.declared.meters.Metered.{Metered}
use Rattle.metric_catalogue.specs.declared.fault.CatalogueFault.{CatalogueFault}
use Rattle.metric_catalogue.specs.declared.fault.CatalogueFault.TheVariants.{NotToml}
use Rattle.metric_catalogue.specs.declared.fault.CataloguePlace.TheVariants.{Top}
use Rattle.metric_catalogue.specs.declared.fault.CatalogueField.TheVariants as fields
use Rattle.metric_catalogue.specs.Faults.{faults_at, field_at}
use Rattle.metric_catalogue.specs.Meters.{with_meter}
use Rattle.metric_catalogue.specs.Recorders.{recorder_of}
use Rattle.metric_catalogue.specs.Seats.{named_in, seats_declared}
use Rattle.metric_catalogue.specs.SharedKeys.{shared_key}

-- the fields of the top table
unfoldable pub top_fields : List (List ℕ)
top_fields = codes "format" ∷ codes "meter" ∷ codes "recorder" ∷ []

-- those of format 3
unfoldable pub shared_top_fields : List (List ℕ)
shared_top_fields = codes "format" ∷ codes "key" ∷ codes "meter" ∷ codes "recorder" ∷ []

abbrev pub top_names : Bool → List (List ℕ)
top_names true = shared_top_fields
top_names false = top_fields

-- the format is 3
abbrev pub is_three : Option Data → Bool
is_three (Some (integer number)) = int_eq number (pos 3)
is_three _ = false

abbrev pub is_shared_table : Option Members → Bool
is_shared_table None = false
is_shared_table (Some table) = is_three (get_member (codes "format") table)

-- # text of format 3 (profile) [is_shared, is_three]
-- The text is TOML, and its format is 3.
abbrev pub is_shared : List ℕ → Bool
is_shared text = is_shared_table (parse_document text)

abbrev pub nothing_metered : Metered
nothing_metered = record { meters = []; instruments = [] }

abbrev pub latest_format : Bool → ℕ
latest_format true = 3
latest_format false = 2

-- the format of a top table with no other fields
unfoldable pub format_of_top : Bool → Members → Result ℕ CatalogueFault
format_of_top is_shared table = do
  _ ← only (faults_at (field_at Top fields.Unknown)) (top_names is_shared) table
  format_up_to (faults_at (field_at Top fields.Format)) (latest_format is_shared) table

-- the format of what a file declares: 2 of one of format 3
abbrev pub declared_format : ℕ → ℕ
declared_format format = if format == 1 then 1 else 2

-- the recorders that tables declare beside these instruments: in format 3 with budgets by their names
abbrev pub recorders_declared : ℕ → Metered → List Members → Result (List Recorder) CatalogueFault
recorders_declared format metered tables =
    if format == 3 then seats_declared (map (named_in metered.meters) metered.instruments) tables
    else each (recorder_of (length metered.instruments)) [] tables

-- the contents that the tables of keys, meters and recorders declare in this format
unfoldable pub contents_declared : ℕ → List Members → List Members → List Members
    → Result Contents CatalogueFault
contents_declared format keys meters recorders = do
  shared ← each shared_key [] keys
  metered ← in_turn (with_meter format shared recorders) nothing_metered meters
  declared ← recorders_declared format metered recorders
  Ok (record {
    format = declared_format format;
    meters = metered.meters;
    instruments = metered.instruments;
    recorders = declared;
  })

-- the contents of a catalogue's table, of format 1 or 2, or 3 where that is known
unfoldable pub contents_of : Bool → Members → Result Contents CatalogueFault
contents_of is_shared table = do
  format ← format_of_top is_shared table
  keys ← tables_field (faults_at (field_at Top fields.Key)) 512 (codes "key") table
  meters ← tables_field (faults_at (field_at Top fields.Meter)) 64 (codes "meter") table
  recorders ← tables_field (faults_at (field_at Top fields.Recorder)) 64 (codes "recorder") table
  contents_declared format keys meters recorders

-- the table that a text in TOML is
abbrev pub document_of : List ℕ → Result Members CatalogueFault
document_of text = require_some (parse_document text) NotToml

-- # catalogue of a text (profile) [catalogue_of, contents_of]
-- The contents that the table of `toml` gives in format 1 or 2, or the first fault of the walk.
unfoldable pub catalogue_of : List ℕ → Result Contents CatalogueFault
catalogue_of text = do
  table ← document_of text
  contents_of false table

-- # opened text (profile) [opened_of, contents_of]
-- The same in format 1, 2 or 3.
unfoldable pub opened_of : List ℕ → Result Contents CatalogueFault
opened_of text = do
  table ← document_of text
  contents_of (is_three (get_member (codes "format") table)) table
