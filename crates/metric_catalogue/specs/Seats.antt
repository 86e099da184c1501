-- Recorders whose budgets go by the names of instruments, and of which one table may stand for several.
use Rattle.std.specs.Prelude.{ℕ, ◌+◌, Bool, not, ◌&&◌, ◌||◌, ◌==◌, List, []}
use Rattle.std.specs.Prelude.{◌∷◌, ◌++◌, map, length, Option, Some, None, Result, Ok, codes, is_some, nat_le, nat_lt}
use Rattle.std.specs.Prelude.{slice_get, unwrap_or, if◌then◌else◌}
use Rattle.std.specs.Fmt.{decimal}
use Rattle.std.specs.List.{enumerate_from, filter, flat_map, list_any, position_from, range_with_len}
use Rattle.std.specs.Str.{bytes_eq}
use Rattle.toml.specs.Data.{Data, integer, Members, no_members, member, get_member}
use Rattle.metric_base.specs.Steps.{◌>>=◌, require, require_none, require_some, each, in_turn}
use Rattle.metric_table.specs.Fields.{only, integer_of, number_between, table_of, names_of}
use Rattle.metric_contents.specs.declared.contents.Budget.{Budget}
use Rattle.metric_contents.specs.declared.contents.Instrument.{Instrument}
use Rattle.metric_contents.specs.declared.contents.Meter.{Meter}
use Rattle.metric_contents.specs.declared.contents.Recorder.{Recorder}
use Rattle.metric_catalogue.specs.declared.named.Named.{Named}
use Rattle.metric_catalogue.specs.declared.seats.Seated.{Seated}
use Rattle.metric_catalogue.specs.declared.fault.CatalogueFault.{CatalogueFault}
use Rattle.metric_catalogue.specs.declared.fault.CatalogueDefect.TheVariants.{
  AmbiguousInstrument,
  BadRange,
  DuplicateBudget,
  DuplicateRecorder,
  TooMany,
  UnknownInstrument,
}
use Rattle.metric_catalogue.specs.declared.fault.CatalogueFault.TheVariants.{At}
use Rattle.metric_catalogue.specs.declared.fault.CataloguePlace.{CataloguePlace}
use Rattle.metric_catalogue.specs.declared.fault.CataloguePlace.TheVariants as place
use Rattle.metric_catalogue.specs.declared.fault.CatalogueSpot.{CatalogueSpot}
use Rattle.metric_catalogue.specs.declared.fault.CatalogueField.TheVariants as fields
use Rattle.metric_catalogue.specs.Faults.{entry_at, faults_at, field_at}
use Rattle.metric_catalogue.specs.Recorders.{amount_from, is_recorder}
use Rattle.metric_catalogue.specs.Texts.{label_field, label_of}

-- the fields of a table of recorders
unfoldable pub seat_fields : List (List ℕ)
seat_fields = codes "name" ∷ codes "count" ∷ codes "budget" ∷ []

abbrev pub meter_name : Option Meter → List ℕ
meter_name None = []
meter_name (Some meter) = meter.name

-- # name of an instrument in a budget (profile) [named_in, is_named]
-- Its name, or that of its meter, a slash and its name.
abbrev pub named_in : List Meter → Instrument → Named
named_in meters instrument = record {
  name = instrument.name;
  path = meter_name (slice_get meters instrument.meter) ++ (codes "/" ++ instrument.name);
}

abbrev pub is_named : List ℕ → Named → Bool
is_named name one = bytes_eq one.name name || bytes_eq one.path name

-- the name of a default, which stands for every instrument that has no budget by its name
abbrev pub is_default : List ℕ → Bool
is_default name = bytes_eq name (codes "*")

-- a name that no instrument has
abbrev pub is_stranger : List Named → List ℕ → Bool
is_stranger named name = not (is_default name) && not (list_any (is_named name) named)

-- more than one of the instruments has the name
abbrev pub named_twice : List ℕ → List Named → Bool
named_twice name named = nat_lt 1 (length (filter (is_named name) named))

-- the table has a budget by the name alone, and one by the name after that of the meter
abbrev pub is_repeated : Members → Named → Bool
is_repeated budget one =
    is_some (get_member one.name budget) && is_some (get_member one.path budget)

-- a number of recordings: a whole number from 0
abbrev pub amount_in : Data → Option ℕ
amount_in (integer number) = amount_from number
amount_in _ = None

abbrev pub is_no_amount : Data → Bool
is_no_amount d = not (is_some (amount_in d))

-- the value as a number of recordings, or else this number
abbrev pub amount_or : Option Data → ℕ → ℕ
amount_or None otherwise = otherwise
amount_or (Some d) otherwise = unwrap_or (amount_in d) 0

-- # budget of an instrument (profile)
-- The one by its name, else the default, else none.
abbrev pub amount_for : Members → Named → ℕ
amount_for budget one =
    amount_or (get_member one.name budget)
    (amount_or (get_member one.path budget) (amount_or (get_member (codes "*") budget) 0))

-- the values of a table
abbrev pub values_in : Members → List Data
values_in no_members = []
values_in (member name d ms) = d ∷ values_in ms

-- each name is that of one instrument, or the default
unfoldable pub names_tried : CatalogueSpot → List Named → Members
    → Result (Unit {0}) CatalogueFault
names_tried at named budget = do
  _ ← require (nat_le (length (names_of budget)) 513) (At TooMany at)
  _ ← require_none (position_from (is_stranger named) 0 (names_of budget))
      (λ n. At UnknownInstrument (entry_at at n))
  require_none (position_from (λ name. named_twice name named) 0 (names_of budget))
      (λ n. At AmbiguousInstrument (entry_at at n))

-- each value is a number of recordings, and no instrument is named twice
unfoldable pub amounts_tried : CatalogueSpot → List Named → Members
    → Result (Unit {0}) CatalogueFault
amounts_tried at named budget = do
  _ ← require_none (position_from is_no_amount 0 (values_in budget))
      (λ n. At BadRange (entry_at at n))
  require (not (list_any (is_repeated budget) named)) (At DuplicateBudget at)

-- so many recordings on the instrument of a number, unless there are none
abbrev pub budget_meant : ℕ → ℕ → List Budget
budget_meant number amount =
    if amount == 0 then [] else record { instrument = number; amount = amount } ∷ []

abbrev pub budget_at : Members → ℕ × Named → List Budget
budget_at budget numbered = budget_meant numbered.0 (amount_for budget numbered.1)

-- # budgets by name (profile) [budgets_of, names_tried, amounts_tried]
-- Each name is that of one instrument or the default, each value a number of recordings, and no
-- instrument is named twice. Then a budget for each instrument that has one.
unfoldable pub budgets_of : CatalogueSpot → List Named → Members
    → Result (List Budget) CatalogueFault
budgets_of at named budget = do
  _ ← names_tried at named budget
  _ ← amounts_tried at named budget
  Ok (flat_map (budget_at budget) (enumerate_from 0 named))

-- the budgets of recorders, none where they have no table of them
abbrev pub budgets_within : CatalogueSpot → List Named → Option Data
    → Result (List Budget) CatalogueFault
budgets_within at named None = Ok []
budgets_within at named (Some d) = do
  budget ← table_of (faults_at at) d
  budgets_of at named budget

-- for how many recorders a table stands, where it says so
abbrev pub count_within : CatalogueSpot → Option Data → Result (Option ℕ) CatalogueFault
count_within at None = Ok None
count_within at (Some d) = do
  number ← integer_of (faults_at at) d
  count ← require_some (number_between 1 64 number) (At BadRange at)
  Ok (Some count)

-- the name of recorders, of a table with no other fields
unfoldable pub seat_name : CataloguePlace → Members → Result (List ℕ) CatalogueFault
seat_name at table = do
  _ ← only (faults_at (field_at at fields.Unknown)) seat_fields table
  label_field (field_at at fields.Name) (codes "name") table

-- # recorders of a count (profile) [seat_names]
-- One of the name; or with a count as many, named by numbers from 0.
abbrev pub numbered : List ℕ → ℕ → List ℕ
numbered name number = name ++ (codes " " ++ decimal number)

abbrev pub seat_names : List ℕ → Option ℕ → List (List ℕ)
seat_names name None = name ∷ []
seat_names name (Some count) = map (numbered name) (range_with_len 0 count)

-- a recorder of a name that no earlier one has
unfoldable pub seat_of : CatalogueSpot → List Budget → List Recorder → List ℕ
    → Result Recorder CatalogueFault
seat_of at budgets before name = do
  short ← label_of at name
  _ ← require (not (list_any (is_recorder short) before)) (At DuplicateRecorder at)
  Ok (record { name = short; budgets = budgets })

abbrev pub nothing_seated : Seated
nothing_seated = record { tables = 0; recorders = [] }

-- the recorders of one more table, of which there are at most 64 in all
unfoldable pub with_seats : List Named → Seated → Members → Result Seated CatalogueFault
with_seats named before table = do
  let at = place.Recorder before.tables
  name ← seat_name at table
  count ← count_within (field_at at fields.Count) (get_member (codes "count") table)
  budgets ← budgets_within (field_at at fields.Budget) named (get_member (codes "budget") table)
  _ ← require (nat_le (length before.recorders + unwrap_or count 1) 64)
      (At TooMany (field_at place.Top fields.Recorder))
  recorders ← each (seat_of (field_at at fields.Name) budgets) before.recorders
      (seat_names name count)
  Ok (record { tables = before.tables + 1; recorders = recorders })

-- # recorders by name (profile) [seats_declared, with_seats]
-- Those that tables stand for, beside instruments of these names.
unfoldable pub seats_declared : List Named → List Members → Result (List Recorder) CatalogueFault
seats_declared named tables = do
  seated ← in_turn (with_seats named) nothing_seated tables
  Ok seated.recorders
