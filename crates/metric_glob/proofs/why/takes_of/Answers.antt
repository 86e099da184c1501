use Rattle.metric_glob.proofs.WalkLemmas.{IsWalk-moves, work_left-moves}
use Rattle.metric_glob.proofs.TakesLemmas.{AreTakesSoFar-moves, takes_ended, no_takes_ended}
use Rattle.metric_glob.proofs.why.takes_of.Goals as goal

pub walk-smaller : goal.walk-smaller
walk-smaller c = work_left-moves c.args.pattern.now c.args.text.now c.walk.walk c.step.new.self c.in-Some.step c.walk.invariant.walked c.walk-test.true c.in-Some.ensures.moves

pub walk-preserved : goal.walk-preserved
walk-preserved c =
    record {
      walked = IsWalk-moves c.args.pattern.now c.args.text.now c.walk.walk c.step.new.self c.in-Some.step c.walk.invariant.walked c.walk-test.true c.in-Some.ensures.moves;
      sofar = rw (c.in_ok-note.ensures) (AreTakesSoFar-moves c.args.pattern.now c.args.text.now c.walk.walk c.step.new.self c.in-Some.step c.walk.takes c.walk.invariant.walked c.walk-test.true c.in-Some.ensures.moves c.walk.invariant.sofar);
    }

pub returns-then-ended : goal.returns-then-ended
returns-then-ended c =
    takes_ended c.args.pattern.now c.args.text.now c.walk.walk c.walk.takes c.settle.new.takes c.take_nothing.new.takes c.walk.invariant.walked c.walk-test.false c.walk.invariant.sofar c.in_ok-settle.ensures
    (rw c.if-ended.true at c.in_ok-ended.ensures)

pub returns-else-ended : goal.returns-else-ended
returns-else-ended c =
    no_takes_ended c.args.pattern.now c.args.text.now c.walk.walk c.settle.new.takes c.take_nothing.new.takes c.walk.invariant.walked c.walk-test.false
    (rw c.if-ended.false at c.in_ok-ended.ensures)
