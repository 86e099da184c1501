-- one of the words has ended
use Rattle.std.proofs.Common.{arith}
use Rattle.metric_messages.proofs.Alike.{ended}
use Rattle.metric_messages.proofs.near.first_alike.Goals as goal

pub returns-clause-exact : goal.returns-clause-exact
returns-clause-exact c =
    let none = ended c.args.text.now c.args.word.now c.loop-place.place (omega (arith, c.loop-place-test.false, c.min-most.ensures)) in
    omega (arith, none, c.loop-place.invariant, c.loop-place-test.false, c.min-most.ensures, c.loop-place.auto.place-end)
