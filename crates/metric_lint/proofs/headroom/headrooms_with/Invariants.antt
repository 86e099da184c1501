-- the headrooms of the instruments so far
use Rattle.std.proofs.Common.{◌≡◌, ◌<◌, ℕ, length, get_or}
use Rattle.metric_lint.specs.declared.headroom.Headroom.{Headroom}
use Rattle.metric_lint.specs.Headrooms.{IsOwnHeadroom}
use Rattle.metric_lint.proofs.headroom.headrooms_with.Given as goal

abbrev pub invariant-loop-number : goal.invariant-loop-number
invariant-loop-number l = record {
  long : length l.all ≡ l.number;
  each : (i : ℕ) (d : Headroom) → i < l.number → IsOwnHeadroom l.catalogue l.streams i (get_or l.all i d);
}
