-- one key more
use Rattle.std.proofs.Common.{ℕ, Bool, ◌++◌, List, take_all, ap, ◌∙◌, arith}
use Rattle.std.specs.List.{enumerate_from, flat_map}
use Rattle.metric_views.specs.Streams.{is_listed}
use Rattle.metric_lint.specs.declared.remark.Remark.TheVariants.{KeptAndExcluded}
use Rattle.metric_lint.specs.Said.{twice_remark}
use Rattle.metric_lint.specs.When.{when}
use Rattle.metric_lint.proofs.Lists.{numbered_turn}
use Rattle.metric_lint.proofs.said.add_twice.Goals as goal

pub loop-place-preserved : goal.loop-place-preserved
loop-place-preserved c =
    let exclude = c.args.exclude.now in
    let view = c.args.view in
    let n = c.loop-place.place in
    let key = c.index-keep-place.result in
    let before = c.loop-place.remarks in
    numbered_turn (twice_remark exclude view) c.args.keep.now n key c.args.remarks.now before c.add_when.new.remarks (omega arith) c.index-keep-place.is
    c.loop-place.invariant
    (c.in_ok-add_when.ensures
    ∙ ap (λ (b : Bool). before ++ when b (KeptAndExcluded view n))
    (c.is_listed-is_twice.ensures
    ∙ ap (λ (name : List ℕ). is_listed name c.as_slice.result.now) c.as_str.ensures
    ∙ ap (λ (keys : List (List ℕ)). is_listed key keys) c.as_slice.ensures.items))

pub returns : goal.returns
returns c =
    let keep = c.args.keep.now in
    c.loop-place.invariant
    ∙ ap (λ (ks : List (List ℕ)). c.args.remarks.now ++ flat_map (twice_remark c.args.exclude.now c.args.view) (enumerate_from 0 ks)) (take_all c.loop-place.place keep (omega arith))
