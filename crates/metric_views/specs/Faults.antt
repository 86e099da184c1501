-- The faults of a field of a table.
use Rattle.std.specs.Prelude.{Some, None}
use Rattle.metric_contents.specs.declared.contents.Kind.{Kind}
use Rattle.metric_table.specs.declared.faults.FieldFaults.{FieldFaults}
use Rattle.metric_views.specs.declared.fault.ConfigField.{ConfigField}
use Rattle.metric_views.specs.declared.fault.ConfigPlace.{ConfigPlace}
use Rattle.metric_views.specs.declared.fault.ConfigSpot.{ConfigSpot}
use Rattle.metric_views.specs.declared.fault.ViewFault.{ViewFault}
use Rattle.metric_views.specs.declared.fault.ViewDefect.TheVariants.{MissingField, WrongKind}
use Rattle.metric_views.specs.declared.fault.ViewDefect.TheVariants.{UnknownField, TooMany}
use Rattle.metric_views.specs.declared.fault.ViewFault.TheVariants.{At, Memory}

-- a field of a table
abbrev pub field_at : ConfigPlace → ConfigField → ConfigSpot
field_at place field = record { place = place; field = field; kind = None }

-- the choice of a field for a kind
abbrev pub of_kind : ConfigSpot → Kind → ConfigSpot
of_kind at kind = record { place = at.place; field = at.field; kind = Some kind }

-- # faults of a field (profile) [faults_at, field_at, of_kind]
-- What each fault of a field of the top table, a reader or a view is.
abbrev pub faults_at : ConfigSpot → FieldFaults ViewFault
faults_at at = record {
  missing = At MissingField at;
  wrong_kind = At WrongKind at;
  unknown = At UnknownField at;
  too_many = At TooMany at;
  memory = Memory;
}
