-- the changes of the names so far
use Rattle.std.proofs.Common.{◌≡◌, ◌++◌, take}
use Rattle.std.specs.BTreeMap.{get_by_text}
use Rattle.std.specs.List.{enumerate_from, flat_map}
use Rattle.metric_diff.specs.Changes.{change_by, plan_of}
use Rattle.metric_diff.proofs.named.add_old.Given as goal

abbrev pub invariant-loop-number : goal.invariant-loop-number
invariant-loop-number l = l.changes ≡ l.fn.changes ++ flat_map (change_by l.sort (get_by_text l.places) (plan_of l.old) (plan_of l.new)) (enumerate_from 0 (take l.number l.names))
