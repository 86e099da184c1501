-- the offers of the instruments so far
use Rattle.std.proofs.Common.{◌≡◌, ℕ, length, Some, slice_get}
use Rattle.metric_resolve.specs.declared.offers.Offer.{Offer}
use Rattle.metric_resolve.specs.Offers.{IsOffer}
use Rattle.metric_resolve.proofs.offers.offers_of.Given as goal

abbrev pub invariant-loop-number : goal.invariant-loop-number
invariant-loop-number g l = record {
  count : length l.offers ≡ l.number;
  each : (k : ℕ) (offer : Offer) → slice_get l.offers k ≡ Some offer
      → IsOffer (g.S.Selection.contents l.selection) (g.S.Selection.setup l.selection) k offer;
}
