-- the changes of the names so far
use Rattle.std.proofs.Common.{◌≡◌, ◌++◌, take}
use Rattle.std.specs.BTreeMap.{get_by_text}
use Rattle.std.specs.List.{enumerate_from, flat_map}
use Rattle.metric_diff.specs.Changes.{new_by}
use Rattle.metric_diff.proofs.named.add_new.Given as goal

abbrev pub invariant-loop-number : goal.invariant-loop-number
invariant-loop-number l = l.changes ≡ l.fn.changes ++ flat_map (new_by l.sort (get_by_text l.places)) (enumerate_from 0 (take l.number l.names))
