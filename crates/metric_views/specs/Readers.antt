-- What the tables of readers are read as, up to the first fault.
use Rattle.std.specs.Prelude.{ℕ, ℤ, pos, codes, Bool, not, ◌&&◌, ◌==◌, List, [], ◌∷◌, length}
use Rattle.std.specs.Prelude.{Option, Some, None, Result, Ok, int_le, nat_abs}
use Rattle.std.specs.List.{list_any}
use Rattle.std.specs.Str.{bytes_eq}
use Rattle.toml.specs.Data.{Data, Members, get_member}
use Rattle.metric_base.specs.Steps.{◌>>=◌, require, require_some, each}
use Rattle.metric_table.specs.Fields.{only, integer_of, short_text, table_of, text_field, text_of}
use Rattle.metric_contents.specs.declared.contents.Kind.{Kind}
use Rattle.metric_contents.specs.declared.contents.Kind.TheVariants.{Counter, UpDownCounter}
use Rattle.metric_contents.specs.declared.contents.Kind.TheVariants.{Histogram, Gauge}
use Rattle.metric_views.specs.declared.choices.ByKind.{ByKind}
use Rattle.metric_views.specs.declared.choices.Temporality.{Temporality}
use Rattle.metric_views.specs.declared.choices.Temporality.TheVariants.{Cumulative}
use Rattle.metric_views.specs.declared.choices.Aggregation.{Aggregation}
use Rattle.metric_views.specs.declared.choices.Aggregation.TheVariants as aggregations
use Rattle.metric_views.specs.declared.config.Reader.{Reader}
use Rattle.metric_views.specs.declared.fault.ConfigPlace.{ConfigPlace}
use Rattle.metric_views.specs.declared.fault.ConfigSpot.{ConfigSpot}
use Rattle.metric_views.specs.declared.fault.ConfigField.TheVariants as fields
use Rattle.metric_views.specs.declared.fault.ConfigPlace.TheVariants as places
use Rattle.metric_views.specs.declared.fault.ViewFault.{ViewFault}
use Rattle.metric_views.specs.declared.fault.ViewDefect.TheVariants.{WrongKind, BadName, BadLimit}
use Rattle.metric_views.specs.declared.fault.ViewDefect.TheVariants.{DuplicateReader}
use Rattle.metric_views.specs.declared.fault.ViewFault.TheVariants.{At}
use Rattle.metric_views.specs.Choices.{aggregation_named, is_unfit, temporality_named}
use Rattle.metric_views.specs.Faults.{faults_at, field_at, of_kind}

-- a temporality
unfoldable pub temporality_of : ConfigSpot → Data → Result Temporality ViewFault
temporality_of at d = do
  text ← text_of (faults_at at) d
  require_some (temporality_named text) (At WrongKind at)

-- an aggregation
unfoldable pub aggregation_of : ConfigSpot → Data → Result Aggregation ViewFault
aggregation_of at d = do
  text ← text_of (faults_at at) d
  require_some (aggregation_named text) (At WrongKind at)

-- a reader's aggregation for a kind, which it fits
unfoldable pub aggregation_for : ConfigSpot → Kind → Data → Result Aggregation ViewFault
aggregation_for at kind d = do
  aggregation ← aggregation_of at d
  _ ← require (not (is_unfit kind aggregation)) (At WrongKind at)
  Ok aggregation

-- # cardinality limit (SDK, cardinality limits; the range is profile) [is_limit, limit_of]
-- A whole number from 1 to 1,000,000.
abbrev pub is_limit : ℤ → Bool
is_limit number = int_le (pos 1) number && int_le number (pos 1000000)

-- a cardinality limit
unfoldable pub limit_of : ConfigSpot → Data → Result ℕ ViewFault
limit_of at d = do
  number ← integer_of (faults_at at) d
  _ ← require (is_limit number) (At BadLimit at)
  Ok (nat_abs number)

-- the choice of a field for one kind, or the usual one
abbrev pub choice_within : {T : Type 0} → T → (Data → Result T ViewFault) → Option Data
    → Result T ViewFault
choice_within usual chosen None = Ok usual
choice_within usual chosen (Some d) = chosen d

unfoldable pub choice_at : {T : Type 0} → T → (Data → Result T ViewFault) → List ℕ → Members
    → Result T ViewFault
choice_at usual chosen name table = choice_within usual chosen (get_member name table)

-- the names of the kinds
unfoldable pub kind_names : List (List ℕ)
kind_names = codes "counter" ∷ codes "up_down_counter" ∷ codes "histogram" ∷ codes "gauge" ∷ []

-- the choices of a table, kind by kind
unfoldable pub choices_by_kind : {T : Type 0} → T → (ConfigSpot → Kind → Data → Result T ViewFault)
    → ConfigSpot → Members → Result (ByKind T) ViewFault
choices_by_kind usual chosen at table = do
  counter ← choice_at usual (chosen (of_kind at Counter) Counter) (codes "counter") table
  up_down_counter ← choice_at usual (chosen (of_kind at UpDownCounter) UpDownCounter) (codes "up_down_counter") table
  histogram ← choice_at usual (chosen (of_kind at Histogram) Histogram) (codes "histogram") table
  gauge ← choice_at usual (chosen (of_kind at Gauge) Gauge) (codes "gauge") table
  Ok (record {
    counter = counter;
    up_down_counter = up_down_counter;
    histogram = histogram;
    gauge = gauge;
  })

-- a table of choices, which has no other fields
unfoldable pub choices_of : {T : Type 0} → T → (ConfigSpot → Kind → Data → Result T ViewFault)
    → ConfigSpot → Members → Result (ByKind T) ViewFault
choices_of usual chosen at table = do
  _ ← only (faults_at at) kind_names table
  choices_by_kind usual chosen at table

-- the usual choice for every kind
abbrev pub for_all : {T : Type 0} → T → ByKind T
for_all usual =
    record { counter = usual; up_down_counter = usual; histogram = usual; gauge = usual }

abbrev pub choices_within : {T : Type 0} → T → (ConfigSpot → Kind → Data → Result T ViewFault)
    → ConfigSpot → Option Data → Result (ByKind T) ViewFault
choices_within usual chosen at None = Ok (for_all usual)
choices_within usual chosen at (Some d) = do
  table ← table_of (faults_at at) d
  choices_of usual chosen at table

-- the choices of a reader's field
unfoldable pub choices_field : {T : Type 0} → T → (ConfigSpot → Kind → Data → Result T ViewFault)
    → ConfigSpot → List ℕ → Members → Result (ByKind T) ViewFault
choices_field usual chosen at name table = choices_within usual chosen at (get_member name table)

-- a reader of this name stands before
abbrev pub has_reader : List Reader → List ℕ → Bool
has_reader before name = list_any (λ reader. bytes_eq reader.name name) before

-- the name of one more reader
unfoldable pub reader_name : List Reader → ConfigSpot → Members → Result (List ℕ) ViewFault
reader_name before at table = do
  name ← text_field (faults_at at) (codes "name") table
  _ ← require (not (length name == 0)) (At BadName at)
  name ← short_text (faults_at at) name
  _ ← require (not (has_reader before name)) (At DuplicateReader at)
  Ok name

-- the fields of a reader
unfoldable pub reader_fields : List (List ℕ)
reader_fields = codes "name" ∷ codes "temporality" ∷ codes "aggregation" ∷ codes "limit" ∷ []

-- what a reader chooses for the kinds
unfoldable pub reader_choices : ConfigPlace → Members
    → Result (ByKind Temporality × ByKind Aggregation × ByKind ℕ) ViewFault
reader_choices at table = do
  temporality ← choices_field Cumulative (λ at _ d. temporality_of at d)
      (field_at at fields.Temporality) (codes "temporality") table
  aggregation ← choices_field aggregations.Default aggregation_for
      (field_at at fields.Aggregation) (codes "aggregation") table
  limit ← choices_field 2000 (λ at _ d. limit_of at d)
      (field_at at fields.Limit) (codes "limit") table
  Ok (temporality, aggregation, limit)

-- # reader (SDK, MetricReader) [reader_of, readers_of]
-- Name, and for each kind temporality, aggregation and limit, or the first fault.
unfoldable pub reader_of : List Reader → Members → Result Reader ViewFault
reader_of before table = do
  let at = places.Reader (length before)
  _ ← only (faults_at (field_at at fields.Unknown)) reader_fields table
  name ← reader_name before (field_at at fields.Name) table
  choices ← reader_choices at table
  Ok (record { name = name; temporality = choices.0; aggregation = choices.1; limit = choices.2 })

-- the readers of all tables, in order
abbrev pub readers_of : List Members → Result (List Reader) ViewFault
readers_of tables = each reader_of [] tables
