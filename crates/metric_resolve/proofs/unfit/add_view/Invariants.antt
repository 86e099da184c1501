-- the warnings of the instruments so far
use Rattle.std.proofs.Common.{◌≡◌, ◌++◌, Some}
use Rattle.std.specs.List.{filter_map, range_with_len}
use Rattle.metric_resolve.specs.Unfit.{unfit_with}
use Rattle.metric_resolve.proofs.unfit.add_view.Given as goal

abbrev pub invariant-loop-instrument : goal.invariant-loop-instrument
invariant-loop-instrument l = l.warnings ≡ l.fn.warnings ++ filter_map (unfit_with l.catalogue l.number (Some l.view)) (range_with_len 0 l.instrument)
