-- the reasons of the views so far
use Rattle.std.proofs.Common.{ℕ, map}
use Rattle.std.specs.List.{AllZip, flat_map, range_with_len}
use Rattle.metric_resolve.specs.Applying.{all_instruments}
use Rattle.metric_make.specs.Making.{IsMadeReason}
use Rattle.metric_make.proofs.reasons.reasons_of.Given as goal

abbrev pub invariant-loop-number : goal.invariant-loop-number
invariant-loop-number l =
    AllZip (IsMadeReason l.catalogue l.config) (flat_map (λ (view : ℕ). map (λ (instrument : ℕ). (view, instrument)) (all_instruments l.catalogue)) (range_with_len 0 l.number)) l.reasons
