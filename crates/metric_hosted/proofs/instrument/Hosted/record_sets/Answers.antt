-- one recording more, or the one that ends them
use Rattle.std.proofs.Common.{[], pos}
use Rattle.metric_hosted.proofs.ListLaws.{made_at, stops_at}
use Rattle.metric_hosted.proofs.instrument.Hosted.record_sets.Goals as goal

pub returns-in-Err : goal.returns-in-Err
returns-in-Err c =
    stops_at c.args.plan.now c.args.self.now c.loop-place.self c.record_one.new.self c.args.seat.now c.loop-place.seat c.record_one.new.seat c.args.recordings.now c.loop-place.place (record { set = []; value = pos 0 }) c.in-Err.refusal
    c.loop-place-test.true c.loop-place.invariant c.in-Err.ensures.err c.in-Err.ensures.seat_err c.in-Err.ensures.answer

pub loop-place-preserved : goal.loop-place-preserved
loop-place-preserved c =
    made_at c.args.plan.now c.args.self.now c.loop-place.self c.record_one.new.self c.args.seat.now c.loop-place.seat c.record_one.new.seat c.args.recordings.now c.loop-place.place (record { set = []; value = pos 0 })
    c.loop-place-test.true c.loop-place.invariant c.in-Ok.ensures.answer c.in-Ok.ensures.new
