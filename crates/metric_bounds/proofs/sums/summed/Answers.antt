-- the flags of all streams
use Rattle.std.proofs.Common.{◌≡◌, false, List, take, ap, ◌∙◌, arith, take_all}
use Rattle.metric_views.specs.declared.stream.Stream.{Stream}
use Rattle.metric_bounds.specs.Sums.{is_summed}
use Rattle.metric_bounds.proofs.Tables.{table_is}
use Rattle.metric_bounds.proofs.sums.summed.Goals as goal

pub returns : goal.returns
returns c =
    let streams = c.args.streams.now in
    let all : take c.loop-stream.stream-index streams ≡ streams = take_all c.loop-stream.stream-index streams (omega arith) in
    c.from_vec.ensures ∙ table_is (is_summed streams) false c.loop-stream.summed.items c.args.count c.loop-stream.invariant.long
    (λ i within. c.loop-stream.invariant.noted i within ∙ ap (λ (s : List Stream). is_summed s i) all)
