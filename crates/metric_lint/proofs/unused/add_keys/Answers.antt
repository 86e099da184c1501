-- one key more
use Rattle.std.proofs.Common.{ℕ, ◌++◌, List, take_all, ap, ◌∙◌, arith}
use Rattle.std.specs.List.{enumerate_from, flat_map}
use Rattle.metric_contents.specs.declared.contents.Key.{Key}
use Rattle.metric_lint.specs.Unused.{key_unused, keyed_unused}
use Rattle.metric_lint.proofs.Lists.{numbered_turn}
use Rattle.metric_lint.proofs.unused.add_keys.Goals as goal

pub loop-place-preserved : goal.loop-place-preserved
loop-place-preserved c =
    let rows = c.args.rows.now in
    let instrument = c.args.instrument in
    let n = c.loop-place.place in
    let before = c.loop-place.remarks in
    numbered_turn (keyed_unused rows instrument) c.args.keys.now n c.index-keys-place.result c.args.remarks.now before c.add_values_of.new.remarks (omega arith) c.index-keys-place.is
    c.loop-place.invariant
    (c.in_ok-add_values_of.ensures ∙ ap (λ (count : ℕ). before ++ key_unused rows instrument n count) c.len.ensures.length)

pub returns : goal.returns
returns c =
    let keys = c.args.keys.now in
    c.loop-place.invariant
    ∙ ap (λ (ks : List Key). c.args.remarks.now ++ flat_map (keyed_unused c.args.rows.now c.args.instrument) (enumerate_from 0 ks)) (take_all c.loop-place.place keys (omega arith))
