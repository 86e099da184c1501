-- the remarks on the keys so far
use Rattle.std.proofs.Common.{◌≡◌, ◌++◌, take}
use Rattle.std.specs.List.{enumerate_from, flat_map}
use Rattle.metric_lint.specs.Remarks.{key_remark}
use Rattle.metric_lint.proofs.linting.add_keys.Given as goal

abbrev pub invariant-loop-place : goal.invariant-loop-place
invariant-loop-place l = l.remarks ≡ l.fn.remarks ++ flat_map (key_remark l.catalogue l.selected l.of.view l.of.list) (enumerate_from 0 (take l.place l.keys))
