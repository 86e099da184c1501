-- one key more
use Rattle.std.proofs.Common.{Bool, ◌++◌, List, take_all, ap, ◌∙◌, arith}
use Rattle.std.specs.List.{enumerate_from, flat_map}
use Rattle.metric_contents.specs.declared.contents.Key.{Key}
use Rattle.metric_diff.specs.declared.change.Change.{Change}
use Rattle.metric_diff.specs.Parts.{is_lost, lost_key, when}
use Rattle.metric_diff.proofs.Lists.{numbered_turn}
use Rattle.metric_diff.proofs.keys.add_lost.Goals as goal

pub loop-number-preserved : goal.loop-number-preserved
loop-number-preserved c =
    let of = c.args.of in
    let n = c.loop-number.number in
    let before = c.loop-number.changes in
    let own = c.args.own in
    let other = c.args.other in
    numbered_turn (lost_key c.args.way of.old of.new other.keys.now own.stream.now other.stream.now) own.keys.now n c.key-item.result c.args.changes.now before c.add_when.new.changes (omega arith) c.key-item.is
    c.loop-number.invariant
    (c.in_ok-add_when.ensures ∙ ap (λ (b : Bool). before ++ when b c.key_change-change.result) c.is_lost.ensures
    ∙ ap (λ (k : Change). before ++ when (is_lost other.keys.now own.stream.now other.stream.now (n, c.key-item.result)) k) c.key_change-change.ensures)

pub returns : goal.returns
returns c =
    let of = c.args.of in
    let keys = c.args.own.keys.now in
    c.loop-number.invariant
    ∙ ap (λ (ks : List Key). c.args.changes.now ++ flat_map (lost_key c.args.way of.old of.new c.args.other.keys.now c.args.own.stream.now c.args.other.stream.now) (enumerate_from 0 ks)) (take_all c.loop-number.number keys (omega arith))
