-- the templates of the views so far
use Rattle.std.proofs.Common.{◌≡◌, take}
use Rattle.std.specs.List.{enumerate_from, filter_map}
use Rattle.metric_resolve.specs.Offers.{view_template}
use Rattle.metric_resolve.proofs.offers.templates_of.Given as goal

abbrev pub invariant-loop-view_number : goal.invariant-loop-view_number
invariant-loop-view_number g l =
    l.templates
    ≡ filter_map (view_template (g.S.Selection.contents l.selection) (g.S.Selection.setup l.selection) l.number l.instrument) (take l.view_number (enumerate_from 0 l.views))
