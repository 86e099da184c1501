-- there is a budget for each recorder
use Rattle.std.proofs.Common.{◌<◌, length, sym, subst, arith}
use Rattle.metric_seat.specs.PlanFacts.{budgets_each}
use Rattle.metric_seat.specs.Seats.{RecorderValue}
use Rattle.metric_seat.proofs.recorder.RecorderSeat.record_on.Goals as goal

pub record-requires-clause-recorder : goal.record-requires-clause-recorder
record-requires-clause-recorder g c =
    let known : c.self.inside.number < length c.args.plan.now.facts.contents.recorders =
    subst (λ (r : RecorderValue). r.number < length c.args.plan.now.facts.contents.recorders) (sym c.self.view_is) c.requires.known.recorder in
    omega (arith, known, budgets_each c.args.plan.now c.args.instrument c.facts-facts.result.now c.facts-facts.ensures.kept c.facts-facts.ensures.facts)
