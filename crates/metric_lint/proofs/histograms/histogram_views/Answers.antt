-- the flags of all streams
use Rattle.std.proofs.Common.{◌≡◌, false, List, take, take_all, ap, ◌∙◌, arith}
use Rattle.std.proofs.lemmas.List.FromFn.{fill_by_all}
use Rattle.metric_views.specs.declared.stream.Stream.{Stream}
use Rattle.metric_lint.specs.Remarks.{makes_histogram}
use Rattle.metric_lint.proofs.histograms.histogram_views.Goals as goal

pub returns : goal.returns
returns c =
    let streams = c.args.streams.now in
    let all : take c.loop-stream.stream-index streams ≡ streams = take_all c.loop-stream.stream-index streams (omega arith) in
    c.from_vec.ensures
    ∙ fill_by_all (makes_histogram streams) c.loop-stream.flags.items c.args.count false c.loop-stream.invariant.long
    (λ i within. c.loop-stream.invariant.noted i within ∙ ap (λ (s : List Stream). makes_histogram s i) all)
