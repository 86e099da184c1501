-- What the values and fields of a certificate's table are read as.
use Rattle.std.specs.Prelude.{ℕ, ℤ, pos, negsuc, ◌^◌, nat_lt, if◌then◌else◌, List, [], length}
use Rattle.std.specs.Prelude.{Option, Some, None, Result, Ok}
use Rattle.toml.specs.Data.{Data, Members, get_member}
use Rattle.metric_base.specs.Steps.{◌>>=◌, each, require_some, with_fault}
use Rattle.metric_table.specs.Fields.{as_list, each_alone, field, integer_of, table_of, text_of}
use Rattle.metric_table.specs.declared.faults.FieldFaults.{FieldFaults}
use Rattle.metric_text.specs.Reading.{number_of}
use Rattle.metric_cert.specs.declared.fault.CertFault.{CertFault}
use Rattle.metric_cert.specs.declared.fault.CertFault.TheVariants.{Memory}
use Rattle.metric_cert.specs.declared.fault.CertList.{CertList}
use Rattle.metric_cert.specs.declared.fault.CertPlace.TheVariants.{Entry}
use Rattle.metric_cert.specs.Decimals.{wide_of}
use Rattle.metric_cert.specs.Places.{at, misshapen}

-- every fault of a field is one of the table's shape
abbrev pub shape_faults : FieldFaults CertFault
shape_faults = record {
  missing = misshapen;
  wrong_kind = misshapen;
  unknown = misshapen;
  too_many = misshapen;
  memory = Memory;
}

-- a whole number from 0 to below the limit
abbrev pub below : ℕ → ℤ → Option ℕ
below limit (pos n) = if nat_lt n limit then Some n else None
below limit (negsuc n) = None

unfoldable pub whole_of : ℕ → Data → Result ℕ CertFault
whole_of limit d = do
  number ← integer_of shape_faults d
  require_some (below limit number) misshapen

-- the decimal text of a number below 2^64
unfoldable pub decimal_of : Data → Result ℕ CertFault
decimal_of d = do
  text ← text_of shape_faults d
  require_some (number_of (2 ^ 64) text) misshapen

-- the decimal text of a number of 128 bits
unfoldable pub signed_decimal_of : Data → Result ℤ CertFault
signed_decimal_of d = do
  text ← text_of shape_faults d
  require_some (wide_of text) misshapen

-- the values of a list
unfoldable pub values_of : Data → Result (List Data) CertFault
values_of d = require_some (as_list d) misshapen

-- a list whose values are each read so
unfoldable pub list_of : {X : Type 0} → (Data → Result X CertFault) → Data
    → Result (List X) CertFault
list_of step d = do
  values ← values_of d
  each_alone step values

-- a table whose fields are read so
unfoldable pub table_as : {X : Type 0} → (Members → Result X CertFault) → Data → Result X CertFault
table_as step d = do
  table ← table_of shape_faults d
  step table

-- a table of a list, behind those before, whose fields are read so
abbrev pub entry_as : {X : Type 0} → CertList → (Members → Result X CertFault) → List X → Data
    → Result X CertFault
entry_as list step before d = with_fault (at (Entry list (length before))) (table_as step d)

-- the tables of a list, each by itself: the first that is wrong is the fault's place
unfoldable pub entries_as : {X : Type 0} → CertList → (Members → Result X CertFault) → Data
    → Result (List X) CertFault
entries_as list step d = do
  values ← values_of d
  each (entry_as list step) [] values

-- a needed field whose value is read so
unfoldable pub needed : {X : Type 0} → (Data → Result X CertFault) → List ℕ → Members
    → Result X CertFault
needed step name table = do
  d ← field shape_faults name table
  step d

abbrev pub where_given : {X : Type 0} → (Data → Result X CertFault) → Option Data
    → Result (Option X) CertFault
where_given step None = Ok None
where_given step (Some d) = step d >>= λ x. Ok (Some x)

-- the same of a field that may be left out
unfoldable pub optional : {X : Type 0} → (Data → Result X CertFault) → List ℕ → Members
    → Result (Option X) CertFault
optional step name table = where_given step (get_member name table)
