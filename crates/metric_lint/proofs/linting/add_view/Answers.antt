-- what a view selects, keeps and excludes, its boundaries, and what it says
use Rattle.std.proofs.Common.{◌≡◌, Bool, ◌++◌, List, Option, Some, false, get_or, length, slice_get, sym, ap, ◌∙◌, arith}
use Rattle.metric_views.specs.declared.config.View.{View}
use Rattle.metric_lint.specs.declared.remark.Remark.TheVariants.{UnusedBoundaries}
use Rattle.metric_lint.specs.Remarks.{boundaries_remarks, settings_remarks, view_remarks, view_remarks_with}
use Rattle.metric_lint.specs.Said.{said_remarks}
use Rattle.metric_lint.specs.When.{when}
use Rattle.metric_lint.proofs.Lists.{element_at}
use Rattle.metric_lint.proofs.Told.{on_ok, two}
use Rattle.metric_lint.proofs.linting.add_view.Goals as goal

pub returns : goal.returns
unfolding view_remarks
returns c =
    let contents = c.args.catalogue.now in
    let config = c.args.config.now in
    let histograms = c.args.histograms.now in
    let view = c.args.view in
    let v = c.index-views-view.result in
    let old = c.args.remarks.now in
    let used = get_or histograms view false in
    let same = ap length c.views.ensures.views in
    let view_at : slice_get config.views view ≡ Some v = element_at config.views c.views.result.now view v c.views.ensures.views (omega arith) c.index-views-view.is in
    let told = c.in_ok-add_settings.ensures in
    let unused = c.has_unused_boundaries-is_unused.ensures in
    let selection = c.as_slice.ensures ∙ c.in_ok-selected.ensures in
    on_ok c.add_said.result _ _
    (λ added.
    two old (settings_remarks contents c.as_slice.result.now v.settings view ++ when c.has_unused_boundaries-is_unused.result (UnusedBoundaries view)) (said_remarks v view) _ _
    (two old (settings_remarks contents c.as_slice.result.now v.settings view) (when c.has_unused_boundaries-is_unused.result (UnusedBoundaries view)) _ _ told c.in_ok-add_when.ensures)
    added
    ∙ ap (λ (b : Bool). old ++ (settings_remarks contents c.as_slice.result.now v.settings view ++ when b (UnusedBoundaries view) ++ said_remarks v view)) unused
    ∙ ap (λ (flags : List Bool). old ++ (settings_remarks contents flags v.settings view ++ boundaries_remarks config v.settings used view ++ said_remarks v view)) selection
    ∙ ap (λ (o : Option View). old ++ view_remarks_with contents config used o view) (sym view_at))
    c.add_said.ensures
