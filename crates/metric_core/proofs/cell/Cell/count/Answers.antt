-- no recorder has more than its budget and what it was granted
use Rattle.std.proofs.Common.{◌≤◌, subst}
use Rattle.metric_core.specs.BudgetLaws.{kept_within}
use Rattle.metric_core.specs.Cells.{CellValue}
use Rattle.metric_safety.specs.SafeFacts.{total}
use Rattle.metric_core.proofs.cell.Cell.count.Goals as goal

pub returns-clause-within : goal.returns-clause-within
returns-clause-within g c =
    subst (λ (v : CellValue g.row.B.Denot). c.self.inside.count ≤ total v.facts) c.self.view_is (kept_within g.B.Book.stands _ c.self.invariant)
