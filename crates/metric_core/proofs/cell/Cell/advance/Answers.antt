-- the mark and the time of the reader move
use Rattle.std.proofs.Common.{◌<◌, length, rules, sym, subst}
use Rattle.metric_core.specs.Cells.{CellStands, CellValue}
use Rattle.metric_core.proofs.CellLaws.{kept_moved, stands_moved}
use Rattle.metric_core.proofs.cell.Cell.advance.Goals as goal

pub advance-requires : goal.advance-requires
advance-requires g c =
    let known : c.args.reader < length c.self.inside.facts.delta = subst (λ (v : CellValue g.row.B.Denot). c.args.reader < length v.facts.delta) (sym c.self.view_is) c.requires in
    (c.self.inside.facts, c.self.invariant.journal, c.self.inside.marks.items, (c.self.invariant.known.book, known))

pub invariant_of-self : goal.invariant_of-self
invariant_of-self g c =
    let known : c.args.reader < length c.self.inside.facts.delta = subst (λ (v : CellValue g.row.B.Denot). c.args.reader < length v.facts.delta) (sym c.self.view_is) c.requires in
    kept_moved g.B.Book.stands _ c.args.reader _ c.advance.new.self c.self.invariant known (λ journal s. c.advance.ensures c.self.inside.facts journal c.self.inside.marks.items s)

pub returns-clause-new : goal.returns-clause-new
returns-clause-new g c = search rules

pub returns-clause-stands : goal.returns-clause-stands
returns-clause-stands g c = λ journal s.
    let before = subst (λ (v : CellValue g.row.B.Denot). CellStands g.B.Book.stands v journal) (sym c.self.view_is) s in
    stands_moved g.B.Book.stands _ c.args.reader _ c.advance.new.self journal before (c.advance.ensures c.self.inside.facts journal c.self.inside.marks.items before.book)
