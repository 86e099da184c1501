-- one stream more
use Rattle.std.proofs.Common.{◌++◌, List, take_all, ap, ◌∙◌, arith}
use Rattle.std.specs.List.{enumerate_from, flat_map}
use Rattle.metric_views.specs.declared.stream.Stream.{Stream}
use Rattle.metric_lint.specs.Values.{stream_remark}
use Rattle.metric_lint.proofs.Lists.{numbered_turn}
use Rattle.metric_lint.proofs.values.add_streams.Goals as goal

pub loop-number-preserved : goal.loop-number-preserved
loop-number-preserved c =
    let contents = c.args.catalogue.now in
    let n = c.loop-number.number in
    let before = c.loop-number.remarks in
    numbered_turn (stream_remark contents) c.args.streams.now n c.index-streams-number.result c.args.remarks.now before c.add_stream.new.remarks (omega arith) c.index-streams-number.is
    c.loop-number.invariant c.in_ok-add_stream.ensures

pub returns : goal.returns
returns c =
    let streams = c.args.streams.now in
    c.loop-number.invariant
    ∙ ap (λ (ss : List Stream). c.args.remarks.now ++ flat_map (stream_remark c.args.catalogue.now) (enumerate_from 0 ss)) (take_all c.loop-number.number streams (omega arith))
