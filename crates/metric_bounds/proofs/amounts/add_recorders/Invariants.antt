-- the totals of the recorders so far
use Rattle.std.proofs.Common.{◌≡◌, ◌<◌, ◌+◌, ◌≤◌, ◌*◌, ◌^◌, ℕ, length, get_or, take}
use Rattle.std.specs.Prelude.{sum_by}
use Rattle.metric_contents.specs.Budgets.{amount_of}
use Rattle.metric_bounds.proofs.amounts.add_recorders.Given as goal

abbrev pub invariant-loop-recorder : goal.invariant-loop-recorder
invariant-loop-recorder l = record {
  long : length l.totals ≡ length l.fn.totals;
  done : (i : ℕ) → i < length l.fn.totals → get_or l.totals i 0 ≡ sum_by (λ recorder. amount_of recorder i) (take l.recorder-index l.recorders) + get_or l.fn.totals i 0;
  bounded : (i : ℕ) → i < length l.fn.totals → get_or l.totals i 0 ≤ 2 ^ 64 * (l.recorder-index + 1);
}
