-- the warnings of the views so far
use Rattle.std.proofs.Common.{◌≡◌, ◌++◌}
use Rattle.std.specs.List.{flat_map, range_with_len}
use Rattle.metric_resolve.specs.Unfit.{unfit_of_view}
use Rattle.metric_resolve.proofs.unfit.add_unfit.Given as goal

abbrev pub invariant-loop-number : goal.invariant-loop-number
invariant-loop-number l = l.warnings ≡ l.fn.warnings ++ flat_map (unfit_of_view l.catalogue l.config) (range_with_len 0 l.number)
