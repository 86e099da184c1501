-- one instrument more, and all of them
use Rattle.std.proofs.Common.{List, length, get_or, ap, ◌∙◌, arith}
use Rattle.metric_handles.specs.Counts.{CountsValue}
use Rattle.metric_handles.specs.Refused.{refusals_of}
use Rattle.metric_handles.proofs.RefusedLaws.{one_instrument_more}
use Rattle.metric_handles.proofs.counted.Counted.refusals.Goals as goal

pub loop-instrument-preserved : goal.loop-instrument-preserved
loop-instrument-preserved g c =
    let counts = c.args.self.now.counts in
    let same = c.all_counts-counts-items.ensures.counts in
    let n = c.loop-instrument.instrument in
    let own = c.counts-item.result in
    one_instrument_more n counts own (refusals_of counts) c.loop-instrument.all.items c.add_refusals.new.all.items (omega (arith, ap length same))
    (c.counts-item.is ∙ ap (λ (all : List CountsValue). get_or all n own) same) c.loop-instrument.invariant c.in_ok-add_refusals.ensures
