-- one view more
use Rattle.std.proofs.Common.{◌≡◌, ℕ, ◌++◌, length, ap, ◌∙◌, arith}
use Rattle.std.specs.List.{flat_map, range_with_len}
use Rattle.metric_lint.specs.Remarks.{view_remarks}
use Rattle.metric_resolve.proofs.Numbers.{flat_map_turn}
use Rattle.metric_lint.proofs.linting.add_views.Goals as goal

pub loop-view-preserved : goal.loop-view-preserved
loop-view-preserved c =
    flat_map_turn (view_remarks c.args.catalogue.now c.args.config.now c.args.histograms.now) c.loop-view.view c.args.remarks.now c.loop-view.remarks c.add_view.new.remarks
    c.loop-view.invariant c.in_ok-add_view.ensures

pub returns : goal.returns
returns c =
    let config = c.args.config.now in
    let all : c.loop-view.view ≡ length config.views = omega (arith, ap length c.views.ensures.views) in
    c.loop-view.invariant
    ∙ ap (λ (n : ℕ). c.args.remarks.now ++ flat_map (view_remarks c.args.catalogue.now config c.args.histograms.now) (range_with_len 0 n)) all
