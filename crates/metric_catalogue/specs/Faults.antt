-- The faults of a field of a table.
use Rattle.std.specs.Prelude.{ℕ, Some, None}
use Rattle.metric_table.specs.declared.faults.FieldFaults.{FieldFaults}
use Rattle.metric_catalogue.specs.declared.fault.CatalogueFault.{CatalogueFault}
use Rattle.metric_catalogue.specs.declared.fault.CatalogueDefect.TheVariants.{MissingField}
use Rattle.metric_catalogue.specs.declared.fault.CatalogueDefect.TheVariants.{WrongKind}
use Rattle.metric_catalogue.specs.declared.fault.CatalogueDefect.TheVariants.{UnknownField, TooMany}
use Rattle.metric_catalogue.specs.declared.fault.CatalogueFault.TheVariants.{At, Memory}
use Rattle.metric_catalogue.specs.declared.fault.CatalogueField.{CatalogueField}
use Rattle.metric_catalogue.specs.declared.fault.CataloguePlace.{CataloguePlace}
use Rattle.metric_catalogue.specs.declared.fault.CatalogueSpot.{CatalogueSpot}

-- a field of a table
abbrev pub field_at : CataloguePlace → CatalogueField → CatalogueSpot
field_at place field = record { place = place; field = field; entry = None }

-- an entry of a field's list
abbrev pub entry_at : CatalogueSpot → ℕ → CatalogueSpot
entry_at at number = record { place = at.place; field = at.field; entry = Some number }

-- # faults of a field (profile) [faults_at, field_at, entry_at]
-- What each fault of a field of a table is.
abbrev pub faults_at : CatalogueSpot → FieldFaults CatalogueFault
faults_at at = record {
  missing = At MissingField at;
  wrong_kind = At WrongKind at;
  unknown = At UnknownField at;
  too_many = At TooMany at;
  memory = Memory;
}

-- where a list of another length than the format says is of another kind
abbrev pub pair_faults_at : CatalogueSpot → FieldFaults CatalogueFault
pair_faults_at at = record {
  missing = At MissingField at;
  wrong_kind = At WrongKind at;
  unknown = At UnknownField at;
  too_many = At WrongKind at;
  memory = Memory;
}
