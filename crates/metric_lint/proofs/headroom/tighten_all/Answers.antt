-- one stream more
use Rattle.std.proofs.Common.{◌<◌, ◌==◌, ℕ, List, Option, fold, if◌then◌else◌, length, get_or, take_all, sym, ap, ◌∙◌, arith}
use Rattle.std.specs.List.{enumerate_from}
use Rattle.metric_views.specs.declared.stream.Stream.{Stream}
use Rattle.metric_lint.specs.declared.headroom.Headroom.{Headroom}
use Rattle.metric_lint.specs.declared.limit.Limit.TheVariants.{Series}
use Rattle.metric_lint.specs.Headrooms.{tightened, tightened_at}
use Rattle.metric_lint.proofs.Lists.{numbered_fold}
use Rattle.metric_lint.proofs.headroom.tighten_all.Goals as goal

pub loop-number-preserved : goal.loop-number-preserved
loop-number-preserved c =
    let contents = c.args.catalogue.now in
    let streams = c.args.streams.now in
    let n = c.loop-number.number in
    let s = c.index-streams-number.result in
    let long = c.loop-number.invariant.long in
    record {
      long = c.tighten_one.ensures.length ∙ long;
      tightened = λ i d less.
          (let within : i < length c.loop-number.all = omega arith in
          c.tighten_one.ensures.tightened i d within
          ∙ ap (λ (m : Option ℕ). if s.instrument == i then tightened (get_or c.loop-number.all i d) m (Series n) else get_or c.loop-number.all i d) c.in_ok-most.ensures
          ∙ ap (λ (h : Headroom). tightened_at contents i h (n, s)) (c.loop-number.invariant.tightened i d less)
          ∙ sym (numbered_fold (tightened_at contents i) (get_or c.args.all.now i d) streams n s (omega arith) c.index-streams-number.is));
    }

pub returns-clause-tightened : goal.returns-clause-tightened
returns-clause-tightened c =
    let contents = c.args.catalogue.now in
    let streams = c.args.streams.now in
    λ i d less.
    c.loop-number.invariant.tightened i d less
    ∙ ap (λ (ss : List Stream). fold (tightened_at contents i) (get_or c.args.all.now i d) (enumerate_from 0 ss)) (take_all c.loop-number.number streams (omega arith))
