-- the remarks on the keys so far
use Rattle.std.proofs.Common.{◌≡◌, ◌++◌, take}
use Rattle.std.specs.List.{enumerate_from, flat_map}
use Rattle.metric_lint.specs.Unused.{keyed_unused}
use Rattle.metric_lint.proofs.unused.add_keys.Given as goal

abbrev pub invariant-loop-place : goal.invariant-loop-place
invariant-loop-place l = l.remarks ≡ l.fn.remarks ++ flat_map (keyed_unused l.rows l.instrument) (enumerate_from 0 (take l.place l.keys))
