-- the remarks on the recorders so far
use Rattle.std.proofs.Common.{◌≡◌, ◌++◌, take}
use Rattle.std.specs.List.{enumerate_from, flat_map}
use Rattle.metric_lint.specs.Remarks.{recorder_remark}
use Rattle.metric_lint.proofs.linting.add_idle.Given as goal

abbrev pub invariant-loop-number : goal.invariant-loop-number
invariant-loop-number l = l.remarks ≡ l.fn.remarks ++ flat_map recorder_remark (enumerate_from 0 (take l.number l.recorders))
