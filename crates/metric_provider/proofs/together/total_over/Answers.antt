-- the sum of one lane more
use Rattle.std.proofs.Common.{ap, arith, ◌+◌, ◌∙◌}
use Rattle.std.proofs.lemmas.Int.{ints, to_z-of_z}
use Rattle.std.proofs.lemmas.List.{take_all}
use Rattle.metric_provider.specs.Lanes.{total_over}
use Rattle.metric_provider.proofs.LaneLaws.{count_more, count_part, total_more}
use Rattle.metric_provider.proofs.together.total_over.Goals as goal

pub overflow_add-total : goal.overflow_add-total
overflow_add-total g c =
    let lanes = c.args.lanes.now in
    let at = c.loop-slot.slot-index in
    let count = count_more lanes at c.slot-item.result c.loop-slot-test.true c.slot-item.is in
    let part = count_part lanes (at + 1) in
    grind (arith, ints, to_z-of_z, c.requires, count, part, c.loop-slot.invariant.low, c.loop-slot.invariant.high, c.lane_sum-own.ensures.low, c.lane_sum-own.ensures.high)

pub loop-slot-preserved : goal.loop-slot-preserved
loop-slot-preserved g c =
    let lanes = c.args.lanes.now in
    let at = c.loop-slot.slot-index in
    let count = count_more lanes at c.slot-item.result c.loop-slot-test.true c.slot-item.is in
    let part = count_part lanes (at + 1) in
    let more = total_more lanes at c.slot-item.result c.loop-slot-test.true c.slot-item.is in
    record {
      sum = omega (arith, ints, c.requires, count, part, more, c.loop-slot.invariant.sum, c.loop-slot.invariant.low, c.loop-slot.invariant.high, c.lane_sum-own.ensures.sum, c.lane_sum-own.ensures.low, c.lane_sum-own.ensures.high);
      low = omega (arith, ints, c.requires, count, part, c.lane_sum-own.ensures.low, c.lane_sum-own.ensures.high);
      high = omega (arith, ints, c.requires, count, part, c.lane_sum-own.ensures.low, c.lane_sum-own.ensures.high);
    }

pub returns : goal.returns
returns g c = c.loop-slot.invariant.sum ∙ ap total_over (take_all c.loop-slot.slot-index c.args.lanes.now c.loop-slot-test.false)
