use Rattle.metric_glob.specs.Walk.{IsTakesWalk, work_left}
use Rattle.metric_glob.proofs.why.takes_of.Given as goal

abbrev pub invariant-walk : goal.invariant-walk
invariant-walk l = IsTakesWalk l.pattern l.text l.walk l.takes

abbrev pub decreases-walk : goal.decreases-walk
decreases-walk l = work_left l.pattern l.text l.walk
