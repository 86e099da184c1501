-- What files are.
use Rattle.std.specs.Prelude.{◌≡◌, ◌==◌, ℕ, true, false, ◌||◌, List, [], Option, Some, None}
use Rattle.std.specs.Prelude.{codes, if◌then◌else◌}
use Rattle.std.specs.List.{ends_with}
use Rattle.metric_promql.specs.declared.expression.Expressions.{Expressions}
use Rattle.metric_promql.specs.declared.fault.PromqlFault.{PromqlFault}
use Rattle.metric_promql.specs.declared.fault.PromqlFault.TheVariants as fault
use Rattle.metric_promql.specs.declared.fault.Unread as of_fault
use Rattle.metric_promql.specs.declared.fault.Unread.TheVariants.{Unclosed, Json}
use Rattle.metric_promql.specs.declared.files.FileForm.{FileForm}
use Rattle.metric_promql.specs.declared.files.FileForm.TheVariants.{Rules, Dashboard, Lines}

-- # form of a file of queries (profile)
-- By the end of its name, where that says it.
abbrev pub form_named : List ℕ → Option FileForm
form_named name =
    if ends_with ◌==◌ name (codes ".yaml") || ends_with ◌==◌ name (codes ".yml") then Some Rules
    else if ends_with ◌==◌ name (codes ".json") then Some Dashboard
    else if ends_with ◌==◌ name (codes ".promql") then Some Lines
    else None

-- what is found in a file of a form: rules alone record names, in dashboards alone variables stand in quotes
abbrev pub IsFoundIn : FileForm → Expressions → Type 0
IsFoundIn Rules found = found.is_template ≡ false
IsFoundIn Dashboard found = (found.is_template ≡ true) × (found.recorded.items ≡ [])
IsFoundIn Lines found = (found.is_template ≡ false) × (found.recorded.items ≡ [])

-- what of a file of a form may not be read
abbrev pub cause_in : FileForm → Option of_fault.Unread
cause_in Rules = Some Unclosed
cause_in Dashboard = Some Json
cause_in Lines = None

-- why a file of a form is not read, but for a lack of memory
abbrev pub IsFaultIn : FileForm → PromqlFault → Type 0
IsFaultIn form (fault.Unread cause at) = cause_in form ≡ Some cause
IsFaultIn form fault.Memory = Unit {0}
