-- the flags of the streams so far
use Rattle.std.proofs.Common.{◌≡◌, ◌<◌, ℕ, false, length, get_or, take}
use Rattle.metric_lint.specs.Remarks.{makes_histogram}
use Rattle.metric_lint.proofs.histograms.histogram_views.Given as goal

abbrev pub invariant-loop-stream : goal.invariant-loop-stream
invariant-loop-stream l = record {
  long : length l.flags.items ≡ l.count;
  noted : (i : ℕ) → i < l.count → get_or l.flags.items i false ≡ makes_histogram (take l.stream-index l.streams) i;
}
