-- the remarks on the readers so far
use Rattle.std.proofs.Common.{◌≡◌, ◌++◌}
use Rattle.std.specs.List.{flat_map, range_with_len}
use Rattle.metric_lint.specs.Collected.{reader_remarks}
use Rattle.metric_lint.proofs.collected.add_readers.Given as goal

abbrev pub invariant-loop-reader : goal.invariant-loop-reader
invariant-loop-reader l = l.remarks ≡ l.fn.remarks ++ flat_map (reader_remarks l.has_instruments l.streams) (range_with_len 0 l.reader)
