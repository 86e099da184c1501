-- one element more
use Rattle.std.proofs.Common.{◌++◌, take_all, ap, ◌∙◌, arith}
use Rattle.std.specs.List.{enumerate_from, flat_map}
use Rattle.metric_diff.proofs.Lists.{numbered_turn}
use Rattle.metric_diff.proofs.each.tell_each.Goals as goal

pub loop-number-preserved : goal.loop-number-preserved
loop-number-preserved g c =
    let n = c.loop-number.number in
    numbered_turn (g.C.Teller.told c.args.teller.now) c.args.elements.now n c.index-elements-number.result c.args.changes.now c.loop-number.changes c.tell.new.changes (omega arith) c.index-elements-number.is
    c.loop-number.invariant c.in_ok-tell.ensures

pub returns : goal.returns
returns g c =
    let elements = c.args.elements.now in
    c.loop-number.invariant
    ∙ ap (λ xs. c.args.changes.now ++ flat_map (g.C.Teller.told c.args.teller.now) (enumerate_from 0 xs)) (take_all c.loop-number.number elements (omega arith))
