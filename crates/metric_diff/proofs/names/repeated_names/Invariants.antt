-- the names so far
use Rattle.std.proofs.Common.{◌≡◌, map, take}
use Rattle.std.specs.BTreeMap.{get_by_text}
use Rattle.std.specs.List.{enumerate_from}
use Rattle.metric_diff.specs.Changes.{repeated}
use Rattle.metric_diff.proofs.names.repeated_names.Given as goal

abbrev pub invariant-loop-number : goal.invariant-loop-number
invariant-loop-number l = l.names ≡ map (repeated (get_by_text l.places)) (enumerate_from 0 (take l.number l.streams))
