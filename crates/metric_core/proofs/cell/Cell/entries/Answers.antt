-- what the book keeps of each journal for which it stands
use Rattle.std.proofs.Common.{sym, subst, ◌∙◌}
use Rattle.metric_core.specs.Cells.{CellStands, CellValue}
use Rattle.metric_core.proofs.cell.Cell.entries.Goals as goal

pub returns-clause-journal : goal.returns-clause-journal
returns-clause-journal g c = λ journal s.
    let known = subst (λ (v : CellValue g.row.B.Denot). CellStands g.B.Book.stands v journal) (sym c.self.view_is) s in
    c.entries.ensures ∙ g.met.B.Book.keeps_all_or_nothing c.self.inside.book c.self.inside.facts journal c.self.inside.marks.items known.book
