-- The recorders of a catalogue, with their budgets.
use Rattle.std.specs.Prelude.{ℕ, ℤ, pos, negsuc, Bool, not, ◌^◌, nat_lt, if◌then◌else◌, List}
use Rattle.std.specs.Prelude.{[], ◌∷◌, length, Option, Some, None, Result, Ok, codes}
use Rattle.std.specs.List.{list_any}
use Rattle.std.specs.Str.{bytes_eq}
use Rattle.toml.specs.Data.{Members}
use Rattle.metric_base.specs.Steps.{◌>>=◌, require, require_some, each}
use Rattle.metric_table.specs.Fields.{only, field, integer_of, tables_field}
use Rattle.metric_contents.specs.Budgets.{is_budget}
use Rattle.metric_contents.specs.declared.contents.Budget.{Budget}
use Rattle.metric_contents.specs.declared.contents.Recorder.{Recorder}
use Rattle.metric_catalogue.specs.declared.fault.CatalogueFault.{CatalogueFault}
use Rattle.metric_catalogue.specs.declared.fault.CatalogueDefect.TheVariants.{
  BadRange,
  UnknownInstrument,
  DuplicateRecorder,
  DuplicateBudget,
}
use Rattle.metric_catalogue.specs.declared.fault.CatalogueFault.TheVariants.{At}
use Rattle.metric_catalogue.specs.declared.fault.CataloguePlace.{CataloguePlace}
use Rattle.metric_catalogue.specs.declared.fault.CatalogueSpot.{CatalogueSpot}
use Rattle.metric_catalogue.specs.declared.fault.CatalogueField.TheVariants as fields
use Rattle.metric_catalogue.specs.declared.fault.CataloguePlace.TheVariants as place
use Rattle.metric_catalogue.specs.Faults.{faults_at, field_at}
use Rattle.metric_catalogue.specs.Texts.{label_field}

-- the fields of a recorder's table
unfoldable pub recorder_fields : List (List ℕ)
recorder_fields = codes "name" ∷ codes "budget" ∷ []

-- the fields of a budget's table
unfoldable pub budget_fields : List (List ℕ)
budget_fields = codes "instrument" ∷ codes "amount" ∷ []

-- a whole number that a budget or a range needs
unfoldable pub number_field : CatalogueSpot → List ℕ → Members → Result ℤ CatalogueFault
number_field at name table = do
  d ← field (faults_at at) name table
  integer_of (faults_at at) d

-- the number of one of so many instruments
abbrev pub number_below : ℕ → ℤ → Option ℕ
number_below count (pos n) = if nat_lt n count then Some n else None
number_below count (negsuc n) = None

-- the instrument of a budget, which is one of the catalogue's
unfoldable pub budgeted : CatalogueSpot → ℕ → Members → Result ℕ CatalogueFault
budgeted at count table = do
  number ← number_field at (codes "instrument") table
  require_some (number_below count number) (At UnknownInstrument at)

-- a number that is not negative, and that a 64-bit number with a sign may be
abbrev pub amount_from : ℤ → Option ℕ
amount_from (pos n) = if nat_lt n (2 ^ 63) then Some n else None
amount_from (negsuc n) = None

-- how many recordings a budget is for
unfoldable pub amount_field : CatalogueSpot → Members → Result ℕ CatalogueFault
amount_field at table = do
  number ← number_field at (codes "amount") table
  require_some (amount_from number) (At BadRange at)

-- one more budget of the recorder of a number, after those before it
unfoldable pub budget_of : ℕ → ℕ → List Budget → Members → Result Budget CatalogueFault
budget_of recorder count before table = do
  let at = place.Budget recorder (length before)
  _ ← only (faults_at (field_at at fields.Unknown)) budget_fields table
  instrument ← budgeted (field_at at fields.Instrument) count table
  amount ← amount_field (field_at at fields.Amount) table
  _ ← require (not (list_any (is_budget instrument) before))
      (At DuplicateBudget (field_at at fields.Instrument))
  Ok (record { instrument = instrument; amount = amount })

-- the recorder has this name
abbrev pub is_recorder : List ℕ → Recorder → Bool
is_recorder name recorder = bytes_eq recorder.name name

-- the name of a recorder, of a table with no other fields
unfoldable pub recorder_name : CataloguePlace → Members → Result (List ℕ) CatalogueFault
recorder_name at table = do
  _ ← only (faults_at (field_at at fields.Unknown)) recorder_fields table
  label_field (field_at at fields.Name) (codes "name") table

-- the budgets of the recorder of a number, unless its name is taken
unfoldable pub budgets_field : ℕ → ℕ → Bool → Members → Result (List Budget) CatalogueFault
budgets_field number count is_taken table = do
  let at = place.Recorder number
  tables ← tables_field (faults_at (field_at at fields.Budget)) 512 (codes "budget") table
  _ ← require (not is_taken) (At DuplicateRecorder (field_at at fields.Name))
  each (budget_of number count) [] tables

-- # recorder with its budgets (profile) [recorder_of, budget_of]
-- Name and budgets, each for a known instrument.
unfoldable pub recorder_of : ℕ → List Recorder → Members → Result Recorder CatalogueFault
recorder_of count before table = do
  name ← recorder_name (place.Recorder (length before)) table
  budgets ← budgets_field (length before) count (list_any (is_recorder name) before) table
  Ok (record { name = name; budgets = budgets })
