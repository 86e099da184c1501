use Rattle.metric_glob.specs.Walk.{IsWalk, work_left}
use Rattle.metric_glob.proofs.matching.matches_text.Given as goal

abbrev pub invariant-walk : goal.invariant-walk
invariant-walk l = IsWalk l.pattern l.text l.walk

abbrev pub decreases-walk : goal.decreases-walk
decreases-walk l = work_left l.pattern l.text l.walk
