-- the book has the reader, and the batch is that of its window
use Rattle.std.proofs.Common.{◌<◌, length, sym, subst, arith}
use Rattle.std.proofs.lemmas.Grind.{common_steps}
use Rattle.metric_core.specs.Cells.{CellValue}
use Rattle.metric_core.proofs.cell.Cell.report.Goals as goal

pub report-requires : goal.report-requires
report-requires g c =
    let known : c.args.reader < length c.self.inside.facts.delta = subst (λ (v : CellValue g.row.B.Denot). c.args.reader < length v.facts.delta) (sym c.self.view_is) c.requires in
    (c.self.inside.facts, c.self.invariant.journal, c.self.inside.marks.items, (c.self.invariant.known.book, known))

pub returns-clause-batch : goal.returns-clause-batch
returns-clause-batch g c = grind (arith, common_steps)
