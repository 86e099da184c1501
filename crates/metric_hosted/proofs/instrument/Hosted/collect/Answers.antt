-- what the seat's collection of the slot says, of the instrument
use Rattle.std.proofs.Common.{rules}
use Rattle.metric_hosted.proofs.ReadLaws.{read}
use Rattle.metric_hosted.proofs.instrument.Hosted.collect.Goals as goal

pub returns-clause-answer : goal.returns-clause-answer
returns-clause-answer c =
    (read c.args.plan.now c.args.self.now c.args.seat.now c.self.inside.run c.number-number.result c.args.now c.self.inside.slot c.collect.new.held c.collect.result c.self.view_is
    c.number-number.ensures c.collect.ensures.answer c.collect.ensures.handed).answer

pub returns-clause-batch : goal.returns-clause-batch
returns-clause-batch c =
    (read c.args.plan.now c.args.self.now c.args.seat.now c.self.inside.run c.number-number.result c.args.now c.self.inside.slot c.collect.new.held c.collect.result c.self.view_is
    c.number-number.ensures c.collect.ensures.answer c.collect.ensures.handed).batch

pub returns-clause-new : goal.returns-clause-new
returns-clause-new c =
    (read c.args.plan.now c.args.self.now c.args.seat.now c.self.inside.run c.number-number.result c.args.now c.self.inside.slot c.collect.new.held c.collect.result c.self.view_is
    c.number-number.ensures c.collect.ensures.answer c.collect.ensures.handed).new_is

pub returns-clause-stands : goal.returns-clause-stands
returns-clause-stands c =
    (read c.args.plan.now c.args.self.now c.args.seat.now c.self.inside.run c.number-number.result c.args.now c.self.inside.slot c.collect.new.held c.collect.result c.self.view_is
    c.number-number.ensures c.collect.ensures.answer c.collect.ensures.handed).stands

pub returns-clause-err : goal.returns-clause-err
returns-clause-err c =
    (read c.args.plan.now c.args.self.now c.args.seat.now c.self.inside.run c.number-number.result c.args.now c.self.inside.slot c.collect.new.held c.collect.result c.self.view_is
    c.number-number.ensures c.collect.ensures.answer c.collect.ensures.handed).same

pub returns-clause-seen : goal.returns-clause-seen
returns-clause-seen c = search rules
