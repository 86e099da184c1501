use Rattle.std.proofs.Common.{◌∙◌, sym}
use Rattle.metric_glob.proofs.WalkLemmas.{IsWalk-moves, IsWalk-ended, work_left-moves}
use Rattle.metric_glob.proofs.matching.matches_text.Goals as goal

pub walk-smaller : goal.walk-smaller
walk-smaller c = work_left-moves c.args.pattern.now c.args.text.now c.walk.walk c.step.new.self c.in-Some._step c.walk.invariant c.walk-test.true c.in-Some.ensures.moves

pub walk-preserved : goal.walk-preserved
walk-preserved c = IsWalk-moves c.args.pattern.now c.args.text.now c.walk.walk c.step.new.self c.in-Some._step c.walk.invariant c.walk-test.true c.in-Some.ensures.moves

pub returns : goal.returns
returns c = c.only_stars.ensures ∙ sym (IsWalk-ended c.args.pattern.now c.args.text.now c.walk.walk c.walk.invariant c.walk-test.false)
