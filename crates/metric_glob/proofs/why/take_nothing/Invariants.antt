use Rattle.std.proofs.Common.{◌-◌, length}
use Rattle.metric_glob.specs.Walk.{TakesNothingSoFar}
use Rattle.metric_glob.proofs.why.take_nothing.Given as goal

abbrev pub invariant-stars : goal.invariant-stars
invariant-stars l = TakesNothingSoFar l.pattern l.start l.place l.fn.takes l.takes

abbrev pub decreases-stars : goal.decreases-stars
decreases-stars l = length l.pattern - l.place
