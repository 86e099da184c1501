use Rattle.std.proofs.Common.{◌≡◌, [], ◌++◌, ap}
use Rattle.metric_family.specs.Labels.{point_labels, scope_labels, series_labels}
use Rattle.metric_exposition.specs.LabelTexts.{with_labels}
use Rattle.metric_exposition.proofs.LabelLaws.{labels_are_joined, with_labels-append}
use Rattle.metric_exposition.proofs.label.fill_point_labels.Goals as goal

pub returns : goal.returns
unfolding point_labels
returns c =
    let series = series_labels c.args.keys.now c.args.kept.now c.args.set.now in
    let scope = scope_labels c.args.meter.now in
    let begun : with_labels c.clear.new.self.items series ≡ with_labels [] series
    = ap (λ text. with_labels text series) c.clear.ensures.items in
    rw (
      ← labels_are_joined (series ++ scope),
      with_labels-append [] series scope,
      ← begun,
      ← c.in_ok-push_series.ensures,
    )
    c.push_scope.ensures
