-- the remarks on the kept keys so far
use Rattle.std.proofs.Common.{◌≡◌, ◌++◌, take}
use Rattle.std.specs.List.{enumerate_from, flat_map}
use Rattle.metric_lint.specs.Said.{twice_remark}
use Rattle.metric_lint.proofs.said.add_twice.Given as goal

abbrev pub invariant-loop-place : goal.invariant-loop-place
invariant-loop-place l = l.remarks ≡ l.fn.remarks ++ flat_map (twice_remark l.exclude l.view) (enumerate_from 0 (take l.place l.keep))
