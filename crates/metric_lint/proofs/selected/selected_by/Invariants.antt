-- the flags of the instruments so far
use Rattle.std.proofs.Common.{◌≡◌, map}
use Rattle.std.specs.List.{range_with_len}
use Rattle.metric_resolve.specs.Applying.{is_selected}
use Rattle.metric_lint.proofs.selected.selected_by.Given as goal

abbrev pub invariant-loop-instrument : goal.invariant-loop-instrument
invariant-loop-instrument l = l.flags ≡ map (λ instrument. is_selected l.catalogue l.config instrument l.view) (range_with_len 0 l.instrument)
