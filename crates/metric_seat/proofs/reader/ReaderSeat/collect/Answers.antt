-- it is said of each reader whether it is delta
use Rattle.std.proofs.Common.{◌<◌, length, sym, subst, ◌∙◌, arith}
use Rattle.metric_seat.specs.PlanFacts.{delta_each, reader_known}
use Rattle.metric_seat.specs.Seats.{CollectorValue, provider_of}
use Rattle.metric_seat.proofs.reader.ReaderSeat.collect.Goals as goal

pub collect-requires : goal.collect-requires
collect-requires g c =
    let readers = length c.args.plan.now.config.readers in
    let known = reader_known (provider_of c.args.plan.now c.args.run) c.args.self.now (sym c.is_of.ensures ∙ c.if-not-is_of.false) in
    let here : c.self.inside.number < readers = subst (λ (r : CollectorValue). r.number < length c.args.plan.now.config.readers) (sym c.self.view_is) known in
    omega (arith, here, delta_each c.args.plan.now c.args.instrument c.facts-facts.result.now c.facts-facts.ensures.kept c.facts-facts.ensures.facts)
