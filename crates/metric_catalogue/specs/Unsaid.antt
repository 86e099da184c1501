-- The budget of an instrument that nobody says, in format 3.
use Rattle.std.specs.Prelude.{ℕ, ℤ, Bool, false, ◌||◌, ◌==◌, List, ◌++◌, Option, Some, codes, is_some, if◌then◌else◌}
use Rattle.std.specs.List.{list_any}
use Rattle.toml.specs.Data.{Data, table as table_data, Members, get_member}
use Rattle.metric_contents.specs.declared.contents.Kind.{Kind}
use Rattle.metric_contents.specs.Most.{safe_total}

-- a table of budgets has one for an instrument, by its name, by that after its meter's, or for all
abbrev pub says_within : List ℕ → List ℕ → Option Data → Bool
says_within name path (Some (table_data budget)) =
    is_some (get_member name budget)
    || (is_some (get_member path budget) || is_some (get_member (codes "*") budget))
says_within name path _ = false

-- the table of recorders does
abbrev pub says : List ℕ → List ℕ → Members → Bool
says name path recorder = says_within name path (get_member (codes "budget") recorder)

abbrev pub unless_said : Bool → Kind → ℤ × ℤ → ℕ
unless_said said kind range = if said then 0 else safe_total kind range.0 range.1

-- # budget that nobody says (profile) [unsaid, says]
-- In format 3, where no table of recorders has a budget for an instrument of a meter: as much as is
-- safe for its range. Else none.
abbrev pub unsaid : ℕ → List Members → List ℕ → List ℕ → Kind → ℤ × ℤ → ℕ
unsaid format recorders meter name kind range =
    if format == 3
    then unless_said (list_any (says name (meter ++ (codes "/" ++ name))) recorders) kind range
    else 0
