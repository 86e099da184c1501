-- what each is so far
use Rattle.std.proofs.Common.{◌≡◌, ◌++◌, drop, map, take}
use Rattle.metric_periodic.specs.Shown.{in_next_run}
use Rattle.metric_periodic.proofs.shown.begin.Given as goal

abbrev pub invariant-loop-one : goal.invariant-loop-one
invariant-loop-one l = l.shown ≡ map in_next_run (take l.one-index l.fn.shown) ++ drop l.one-index l.fn.shown
