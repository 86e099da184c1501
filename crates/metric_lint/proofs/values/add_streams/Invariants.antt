-- the remarks on the streams so far
use Rattle.std.proofs.Common.{◌≡◌, ◌++◌, take}
use Rattle.std.specs.List.{enumerate_from, flat_map}
use Rattle.metric_lint.specs.Values.{stream_remark}
use Rattle.metric_lint.proofs.values.add_streams.Given as goal

abbrev pub invariant-loop-number : goal.invariant-loop-number
invariant-loop-number l = l.remarks ≡ l.fn.remarks ++ flat_map (stream_remark l.catalogue) (enumerate_from 0 (take l.number l.streams))
