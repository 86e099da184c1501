-- one instrument more
use Rattle.std.proofs.Common.{◌≡◌, ℕ, ◌++◌, List, [], ◌∷◌, length, Some, slice_get, sym, ap, subst, arith, length-append}
use Rattle.metric_resolve.specs.declared.offers.Offer.{Offer}
use Rattle.metric_resolve.specs.Offers.{IsOffer}
use Rattle.metric_resolve.proofs.OfferLaws.{each_more}
use Rattle.metric_resolve.proofs.offers.offers_of.Goals as goal

pub loop-number-preserved : goal.loop-number-preserved
loop-number-preserved g c =
    let contents = g.S.Selection.contents c.args.selection.now in
    let setup = g.S.Selection.setup c.args.selection.now in
    let offers = c.loop-number.offers in
    let offer = c.in_ok-offer.offer in
    let pushed : c.push.new.self ≡ offers ++ offer ∷ [] = c.in_ok-push.ensures.ok in
    let last : IsOffer contents setup (length offers) offer = subst (λ (k : ℕ). IsOffer contents setup k offer) (sym c.loop-number.invariant.count) c.in_ok-offer.ensures in
    let each = each_more (IsOffer contents setup) offers offer c.loop-number.invariant.each last in
    let long = length-append offers (offer ∷ []) in
    let longer = ap length pushed in
    record {
      count = omega arith;
      each = subst (λ (os : List Offer). (k : ℕ) (o : Offer) → slice_get os k ≡ Some o → IsOffer contents setup k o) (sym pushed) each;
    }
