-- the changes of the keys so far
use Rattle.std.proofs.Common.{◌≡◌, ◌++◌, take}
use Rattle.std.specs.List.{enumerate_from, flat_map}
use Rattle.metric_diff.specs.Parts.{lost_key}
use Rattle.metric_diff.proofs.keys.add_lost.Given as goal

abbrev pub invariant-loop-number : goal.invariant-loop-number
invariant-loop-number l = l.changes ≡ l.fn.changes ++ flat_map (lost_key l.way l.of.old l.of.new l.other.keys.now l.own.stream.now l.other.stream.now) (enumerate_from 0 (take l.number l.own.keys.now))
