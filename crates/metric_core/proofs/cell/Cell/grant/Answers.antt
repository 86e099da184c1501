-- what a grant leaves
use Rattle.std.proofs.Common.{◌<◌, ◌≤◌, length, rules, sym, subst, arith}
use Rattle.metric_core.specs.Cells.{CellValue}
use Rattle.metric_core.proofs.CellLaws.{grant_fits, granted_kept}
use Rattle.metric_core.proofs.cell.Cell.grant.Goals as goal

pub grant-requires-clause-room : goal.grant-requires-clause-room
grant-requires-clause-room g c =
    let known : c.args.recorder < length c.self.inside.facts.budgets = subst (λ (v : CellValue g.row.B.Denot). c.args.recorder < length v.facts.budgets) (sym c.self.view_is) c.requires in
    let left : c.args.amount ≤ c.self.inside.budgets.spare = omega arith in
    grant_fits g.B.Book.stands _ c.args.recorder c.args.amount c.self.invariant known left

pub invariant_of-self : goal.invariant_of-self
invariant_of-self g c =
    let known : c.args.recorder < length c.self.inside.facts.budgets = subst (λ (v : CellValue g.row.B.Denot). c.args.recorder < length v.facts.budgets) (sym c.self.view_is) c.requires in
    let left : c.args.amount ≤ c.self.inside.budgets.spare = omega arith in
    granted_kept g.B.Book.stands _ _ c.args.recorder c.args.amount (search rules) c.self.invariant known left
