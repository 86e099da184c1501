-- the remarks on the views so far
use Rattle.std.proofs.Common.{◌≡◌, ◌++◌}
use Rattle.std.specs.List.{flat_map, range_with_len}
use Rattle.metric_lint.specs.Remarks.{view_remarks}
use Rattle.metric_lint.proofs.linting.add_views.Given as goal

abbrev pub invariant-loop-view : goal.invariant-loop-view
invariant-loop-view l = l.remarks ≡ l.fn.remarks ++ flat_map (view_remarks l.catalogue l.config l.histograms) (range_with_len 0 l.view)
