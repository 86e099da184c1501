-- the remarks on the instruments so far
use Rattle.std.proofs.Common.{◌≡◌, ◌++◌}
use Rattle.std.specs.List.{flat_map, range_with_len}
use Rattle.metric_lint.specs.Remarks.{instrument_remarks}
use Rattle.metric_lint.proofs.linting.add_instruments.Given as goal

abbrev pub invariant-loop-number : goal.invariant-loop-number
invariant-loop-number l = l.remarks ≡ l.fn.remarks ++ flat_map (instrument_remarks l.catalogue l.rooms) (range_with_len 0 l.number)
