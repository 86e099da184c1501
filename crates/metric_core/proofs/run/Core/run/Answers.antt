-- the cells after the events are written back
use Rattle.std.proofs.Common.{◌≡◌, List, length, drop, sym, ap, subst, arith}
use Rattle.std.proofs.lemmas.List.{take_at}
use Rattle.metric_core.specs.Cells.{CellValue}
use Rattle.metric_core.specs.CertifiedRuns.{StaysSafe}
use Rattle.metric_core.specs.CoreStands.{CoreValue, CoreStands, CellsStand}
use Rattle.metric_history.specs.Legal.{AllLegal, grown}
use Rattle.metric_core.proofs.run.Core.run.Goals as goal

pub returns-clause-legal : goal.returns-clause-legal
returns-clause-legal g c = λ h s.
    let inside = c.self.inside in
    let before : CellsStand g.B.Book.stands inside.plan.facts inside.start inside.cells.items h = subst (λ (core : CoreValue g.row.B.Denot). CoreStands g.B.Book.stands core h) (sym c.self.view_is) s in
    let given : CellsStand g.B.Book.stands inside.plan.facts inside.start c.as_mut_slice.result.now h = subst (λ (cs : List (CellValue g.row.B.Denot)). CellsStand g.B.Book.stands inside.plan.facts inside.start cs h) (sym c.as_mut_slice.ensures.value) before in
    subst (λ (core : CoreValue g.row.B.Denot). AllLegal core.plan.facts core.start h c.args.events.now c.run_on.new.replies.items) c.self.view_is
    (c.run_on.ensures.legal inside.start h given)

pub returns-clause-plan : goal.returns-clause-plan
returns-clause-plan g c = ap (λ (core : CoreValue g.row.B.Denot). core.plan) c.self.view_is

pub returns-clause-start : goal.returns-clause-start
returns-clause-start g c = ap (λ (core : CoreValue g.row.B.Denot). core.start) c.self.view_is

pub returns-clause-stands : goal.returns-clause-stands
returns-clause-stands g c = λ h s.
    let inside = c.self.inside in
    let before : CellsStand g.B.Book.stands inside.plan.facts inside.start inside.cells.items h = subst (λ (core : CoreValue g.row.B.Denot). CoreStands g.B.Book.stands core h) (sym c.self.view_is) s in
    let given : CellsStand g.B.Book.stands inside.plan.facts inside.start c.as_mut_slice.result.now h = subst (λ (cs : List (CellValue g.row.B.Denot)). CellsStand g.B.Book.stands inside.plan.facts inside.start cs h) (sym c.as_mut_slice.ensures.value) before in
    let long : length c.run_on.new.cells ≡ inside.cells.len = omega (arith, c.run_on.auto.cells, c.as_mut_slice.ensures.len) in
    subst (λ (cs : List (CellValue g.row.B.Denot)). CellsStand g.B.Book.stands inside.plan.facts inside.start cs (grown h c.args.events.now c.run_on.new.replies.items))
    (sym (take_at c.run_on.new.cells (drop (length c.run_on.new.cells) inside.cells.items) inside.cells.len long)) (c.run_on.ensures.stands inside.start h given)

pub returns-clause-safe : goal.returns-clause-safe
returns-clause-safe g c = λ h s.
    let inside = c.self.inside in
    let before : CellsStand g.B.Book.stands inside.plan.facts inside.start inside.cells.items h = subst (λ (core : CoreValue g.row.B.Denot). CoreStands g.B.Book.stands core h) (sym c.self.view_is) s in
    let given : CellsStand g.B.Book.stands inside.plan.facts inside.start c.as_mut_slice.result.now h = subst (λ (cs : List (CellValue g.row.B.Denot)). CellsStand g.B.Book.stands inside.plan.facts inside.start cs h) (sym c.as_mut_slice.ensures.value) before in
    subst (λ (core : CoreValue g.row.B.Denot). StaysSafe core.plan core.start h c.args.events.now c.run_on.new.replies.items) c.self.view_is
    (c.runs_stay_safe.ensures inside.start h c.args.events.now c.run_on.new.replies.items (c.run_on.ensures.legal inside.start h given))
