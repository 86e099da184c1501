-- the changes of the elements so far
use Rattle.std.proofs.Common.{◌≡◌, ◌++◌, take}
use Rattle.std.specs.List.{enumerate_from, flat_map}
use Rattle.metric_diff.proofs.each.tell_each.Given as goal

abbrev pub invariant-loop-number : goal.invariant-loop-number
invariant-loop-number g l = l.changes ≡ l.fn.changes ++ flat_map (g.C.Teller.told l.teller) (enumerate_from 0 (take l.number l.elements))
