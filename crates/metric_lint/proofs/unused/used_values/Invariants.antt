-- the flags of the rows so far
use Rattle.std.proofs.Common.{◌≡◌, ◌<◌, ℕ, false, length, get_or, take}
use Rattle.metric_lint.specs.Unused.{is_used}
use Rattle.metric_lint.proofs.unused.used_values.Given as goal

abbrev pub invariant-loop-row : goal.invariant-loop-row
invariant-loop-row l = record {
  long : length l.flags.items ≡ l.count;
  noted : (i : ℕ) → i < l.count → get_or l.flags.items i false ≡ is_used (take l.row-index l.rows) l.key i;
}
