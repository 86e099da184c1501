-- one view more
use Rattle.std.proofs.Common.{◌≡◌, ℕ, length, map, Option, sym, ap, subst, ◌+◌, arith}
use Rattle.std.specs.List.{AllZip, flat_map, range_with_len}
use Rattle.metric_views.specs.declared.config.View.{View}
use Rattle.metric_resolve.specs.Applying.{all_instruments}
use Rattle.metric_make.specs.Making.{IsMadeBy, IsMadeReason, IsReasonFor}
use Rattle.metric_make.proofs.Pairs.{AllZip-flat_more, AllZip-map_left, AllZip-weaker, element_at}
use Rattle.metric_make.proofs.reasons.reasons_of.Goals as goal

pub loop-number-preserved : goal.loop-number-preserved
loop-number-preserved c =
    let contents = c.args.catalogue.now in
    let config = c.args.config.now in
    let n = c.loop-number.number in
    let v = c.view-item.result in
    let adds = c.in_ok-add_view.ensures in
    let at = element_at config.views c.views-view-items.result.now n v c.views-view-items.ensures.views (omega arith) c.view-item.is in
    subst (λ rs. AllZip (IsMadeReason contents config) (flat_map (λ (view : ℕ). map (λ (instrument : ℕ). (view, instrument)) (all_instruments contents)) (range_with_len 0 (n + 1))) rs)
    (sym adds.is)
    (AllZip-flat_more (IsMadeReason contents config) (λ (view : ℕ). map (λ (instrument : ℕ). (view, instrument)) (all_instruments contents)) n c.loop-number.reasons adds.added c.loop-number.invariant
    (AllZip-map_left (λ (instrument : ℕ). (n, instrument)) (IsMadeReason contents config) (all_instruments contents) adds.added
    (AllZip-weaker (IsReasonFor contents n v) (λ instrument reason. IsMadeReason contents config (n, instrument) reason)
    (λ instrument reason own. record {
      view = own.of_view;
      instrument = own.of_instrument;
      evidence = subst (λ (o : Option View). IsMadeBy o contents instrument reason.evidence) (sym at) own.evidence;
    }) (all_instruments contents) adds.added adds.each)))

pub returns : goal.returns
returns c =
    let contents = c.args.catalogue.now in
    let config = c.args.config.now in
    let count = ap length c.views-view-items.ensures.views in
    let all : c.loop-number.number ≡ length config.views = omega arith in
    subst (λ (k : ℕ). AllZip (IsMadeReason contents config) (flat_map (λ (view : ℕ). map (λ (instrument : ℕ). (view, instrument)) (all_instruments contents)) (range_with_len 0 k)) c.loop-number.reasons)
    all c.loop-number.invariant
