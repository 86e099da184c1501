-- the flags of the streams so far
use Rattle.std.proofs.Common.{◌≡◌, ◌<◌, ℕ, false, length, get_or, take}
use Rattle.metric_bounds.specs.Sums.{is_summed}
use Rattle.metric_bounds.proofs.sums.summed.Given as goal

abbrev pub invariant-loop-stream : goal.invariant-loop-stream
invariant-loop-stream l = record {
  long : length l.summed.items ≡ l.count;
  noted : (i : ℕ) → i < l.count → get_or l.summed.items i false ≡ is_summed (take l.stream-index l.streams) i;
}
