use Rattle.std.proofs.Common.{ℕ, ◌<◌}
use Rattle.metric_glob.specs.Reasons.{RowStays}
use Rattle.metric_glob.proofs.confirming.are_closed.Given as goal

abbrev pub invariant-loop-at : goal.invariant-loop-at
invariant-loop-at l = (i : ℕ) → i < l.at → RowStays l.pattern l.text l.rows i
