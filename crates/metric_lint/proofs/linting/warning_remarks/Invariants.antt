-- the remarks of the warnings so far
use Rattle.std.proofs.Common.{◌≡◌, map, take}
use Rattle.metric_lint.specs.Remarks.{remark_of}
use Rattle.metric_lint.proofs.linting.warning_remarks.Given as goal

abbrev pub invariant-loop-warning : goal.invariant-loop-warning
invariant-loop-warning l = l.remarks ≡ map remark_of (take l.warning-index l.warnings)
