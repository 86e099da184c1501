-- one instrument more
use Rattle.std.proofs.Common.{arith}
use Rattle.metric_periodic.proofs.Patience.{collected_one, one_more_instrument}
use Rattle.metric_periodic.proofs.collecting.collect_all.Goals as goal

pub loop-instrument-preserved : goal.loop-instrument-preserved
loop-instrument-preserved g c = record {
  first =
      one_more_instrument c.args.provider.now c.args.now c.loop-instrument.instrument c.args.seat.now c.loop-instrument.seat c.collect-answer.new.self
      c.loop-instrument.batches.items c.put.new.batches.items c.loop-instrument.refused.items c.put.new.refused.items c.loop-instrument.invariant.first
      (record {
        answer = c.collect-answer.result;
        one =
            collected_one c.args.provider.now c.args.now c.loop-instrument.instrument c.loop-instrument.seat c.collect-answer.new.self c.collect-answer.result
            c.collect-answer.ensures.answer c.collect-answer.ensures.seen c.collect-answer.ensures.err;
        batches = c.put.ensures.batches;
        refused = c.put.ensures.refused;
      });
  batches = omega (arith, c.put.ensures.batches_len, c.loop-instrument.invariant.batches);
  refused = omega (arith, c.put.ensures.refused_len, c.loop-instrument.invariant.refused);
  batches_room = rw c.put.ensures.batches_room c.loop-instrument.invariant.batches_room;
  refused_room = rw c.put.ensures.refused_room c.loop-instrument.invariant.refused_room;
}
