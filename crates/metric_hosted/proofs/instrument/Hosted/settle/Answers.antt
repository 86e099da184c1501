-- numbers that are others than the seats were told
use Rattle.std.proofs.Common.{◌≡◌, List, Result, Ok, Err, arith, length, refl, sym, ap, subst, ◌∙◌}
use Rattle.std.proofs.lemmas.Grind.{common_steps}
use Rattle.metric_core.specs.Cells.{CellValue}
use Rattle.metric_marked.specs.Marks.{MarkedValue}
use Rattle.metric_seat.specs.Settlements.{IsAsTold, numbers_of}
use Rattle.metric_seat.specs.declared.fault.FinishFault.{FinishFault}
use Rattle.metric_seat.specs.declared.fault.FinishFault.TheVariants.{AuditMismatch}
use Rattle.metric_hosted.specs.Hosts.{HostedValue}
use Rattle.metric_hosted.specs.Settlements.{Settles, recorder_of, seated, told_of}
use Rattle.metric_hosted.specs.declared.settling.SeatTold.{SeatTold}
use Rattle.metric_hosted.proofs.instrument.Hosted.settle.Goals as goal

mismatch : (c : CellValue MarkedValue) (seats : List SeatTold) (first : Result (Unit {0}) FinishFault) (done : Unit {0}) → first ≡ Ok done
    → (IsAsTold recorder_of told_of (numbers_of c) seats → ⊥) → Settles c seats first (Err AuditMismatch)
mismatch c seats (Ok own) done is not = (refl, not)
mismatch c seats (Err fault) done is not = absurd cc

pub returns-in-None : goal.returns-in-None
returns-in-None c =
    let seats = c.args.seats.now in
    let same : c.cell-cell.result.now ≡ c.args.self.now.cell = c.cell-cell.ensures.cell ∙ ap (λ (h : HostedValue). h.cell) c.self.view_is in
    let long : c.len.result ≡ length c.args.self.now.cell.facts.budgets = grind (arith, common_steps) in
    mismatch c.args.self.now.cell seats (seated (length c.args.self.now.cell.facts.budgets) seats) c.in-Ok.field-0
    (sym (c.seated.ensures ∙ ap (λ n. seated n seats) long) ∙ c.in-Ok.is)
    (λ told. c.in-None.ensures.other (subst (λ (cell : CellValue MarkedValue). IsAsTold recorder_of told_of (numbers_of cell) seats) (sym same) told))
