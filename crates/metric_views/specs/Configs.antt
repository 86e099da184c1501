-- What a text is read as: a config, or the first fault.
use Rattle.std.specs.Prelude.{ℕ, codes, List, [], ◌∷◌, Result, Ok}
use Rattle.toml.specs.Data.{Members}
use Rattle.toml.specs.Parse.{parse_document}
use Rattle.metric_base.specs.Steps.{◌>>=◌, require_some}
use Rattle.metric_table.specs.Fields.{format_up_to, only, tables_field}
use Rattle.metric_views.specs.declared.config.Setup.{Setup}
use Rattle.metric_views.specs.declared.fault.ConfigPlace.TheVariants.{Top}
use Rattle.metric_views.specs.declared.fault.ConfigField.TheVariants as fields
use Rattle.metric_views.specs.declared.fault.ViewFault.{ViewFault}
use Rattle.metric_views.specs.declared.fault.ViewFault.TheVariants.{NotToml}
use Rattle.metric_views.specs.Faults.{faults_at, field_at}
use Rattle.metric_views.specs.Readers.{readers_of}
use Rattle.metric_views.specs.Views.{views_of}

-- the fields of the top table
unfoldable pub top_fields : List (List ℕ)
top_fields = codes "format" ∷ codes "reader" ∷ codes "view" ∷ []

-- the lists of the top table
unfoldable pub lists_of_top : Members → Result (List Members × List Members) ViewFault
lists_of_top table = do
  readers ← tables_field (faults_at (field_at Top fields.Reader)) 16 (codes "reader") table
  views ← tables_field (faults_at (field_at Top fields.View)) 256 (codes "view") table
  Ok (readers, views)

-- the tables of the readers and of the views
unfoldable pub tables_of_top : Members → Result (List Members × List Members) ViewFault
tables_of_top table = do
  _ ← only (faults_at (field_at Top fields.Unknown)) top_fields table
  _ ← format_up_to (faults_at (field_at Top fields.Format)) 1 table
  lists_of_top table

-- what the tables of the readers and those of the views say
unfoldable pub setup_of_tables : List Members → List Members → Result Setup ViewFault
setup_of_tables reader_tables view_tables = do
  readers ← readers_of reader_tables
  views ← views_of view_tables
  Ok (record { readers = readers; views = views })

-- what the top table says
unfoldable pub setup_of_table : Members → Result Setup ViewFault
setup_of_table table = do
  tables ← tables_of_top table
  setup_of_tables tables.0 tables.1

-- # config of a text (profile)
-- The readers and views of what `toml` reads, or the first fault.
abbrev pub config_of : List ℕ → Result Setup ViewFault
config_of text = do
  table ← require_some (parse_document text) NotToml
  setup_of_table table
