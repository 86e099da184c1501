-- a letter that is another one, one that is the same, and the end of a word
use Rattle.std.proofs.Common.{arith}
use Rattle.metric_messages.proofs.Alike.{behind_ended, behind_other, behind_same}
use Rattle.metric_messages.proofs.near.last_alike.Goals as goal

pub returns-then-text-place-clause-exact : goal.returns-then-text-place-clause-exact
returns-then-text-place-clause-exact c =
    let none =
    behind_other c.args.text.now c.args.word.now c.loop-place.place (omega (arith, c.loop-place-test.true, c.min-most.ensures)) (omega (arith, c.loop-place-test.true, c.min-most.ensures))
    c.if-text-place.true in
    omega (arith, none, c.loop-place.invariant)

pub loop-place-preserved : goal.loop-place-preserved
loop-place-preserved c =
    let next =
    behind_same c.args.text.now c.args.word.now c.loop-place.place (omega (arith, c.loop-place-test.true, c.min-most.ensures)) (omega (arith, c.loop-place-test.true, c.min-most.ensures))
    c.if-text-place.false in
    omega (arith, next, c.loop-place.invariant)

pub returns-clause-exact : goal.returns-clause-exact
returns-clause-exact c =
    let none = behind_ended c.args.text.now c.args.word.now c.loop-place.place (omega (arith, c.loop-place-test.false, c.min-most.ensures)) in
    omega (arith, none, c.loop-place.invariant, c.loop-place-test.false, c.min-most.ensures, c.loop-place.auto.place-end)
