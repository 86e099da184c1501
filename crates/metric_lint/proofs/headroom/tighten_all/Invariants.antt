-- the headrooms, lowered by the streams so far
use Rattle.std.proofs.Common.{◌≡◌, ◌<◌, ℕ, fold, length, get_or, take}
use Rattle.std.specs.List.{enumerate_from}
use Rattle.metric_lint.specs.declared.headroom.Headroom.{Headroom}
use Rattle.metric_lint.specs.Headrooms.{tightened_at}
use Rattle.metric_lint.proofs.headroom.tighten_all.Given as goal

abbrev pub invariant-loop-number : goal.invariant-loop-number
invariant-loop-number l = record {
  long : length l.all ≡ length l.fn.all;
  tightened : (i : ℕ) (d : Headroom) → i < length l.fn.all
      → get_or l.all i d ≡ fold (tightened_at l.catalogue i) (get_or l.fn.all i d) (enumerate_from 0 (take l.number l.streams));
}
