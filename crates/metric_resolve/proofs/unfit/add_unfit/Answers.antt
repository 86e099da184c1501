-- one view more
use Rattle.std.proofs.Common.{◌≡◌, ℕ, ◌++◌, length, Option, sym, ap, ◌∙◌, arith}
use Rattle.std.specs.List.{filter_map, flat_map, range_with_len}
use Rattle.metric_views.specs.declared.config.View.{View}
use Rattle.metric_resolve.specs.Applying.{all_instruments}
use Rattle.metric_resolve.specs.Unfit.{unfit_of, unfit_of_view, unfit_with}
use Rattle.metric_resolve.proofs.Lists.{element_at}
use Rattle.metric_resolve.proofs.Numbers.{flat_map_turn}
use Rattle.metric_resolve.proofs.unfit.add_unfit.Goals as goal

pub loop-number-preserved : goal.loop-number-preserved
unfolding unfit_of_view
loop-number-preserved c =
    let contents = c.args.catalogue.now in
    let config = c.args.config.now in
    let v = c.view-item.result in
    let n = c.loop-number.number in
    let at = element_at config.views c.views-view-items.result.now n v c.views-view-items.ensures.views (omega arith) c.view-item.is in
    flat_map_turn (unfit_of_view contents config) n c.args.warnings.now c.loop-number.warnings c.add_view.new.warnings c.loop-number.invariant
    (c.in_ok-add_view.ensures
    ∙ ap (λ (o : Option View). c.loop-number.warnings ++ filter_map (unfit_with contents n o) (all_instruments contents)) (sym at))

pub returns : goal.returns
unfolding unfit_of
returns c =
    let config = c.args.config.now in
    let same = ap length c.views-view-items.ensures.views in
    let all : c.loop-number.number ≡ length config.views = omega arith in
    c.loop-number.invariant ∙ ap (λ (n : ℕ). c.args.warnings.now ++ flat_map (unfit_of_view c.args.catalogue.now config) (range_with_len 0 n)) all
