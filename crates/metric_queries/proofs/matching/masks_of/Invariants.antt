-- the masks of the keys so far
use Rattle.std.proofs.Common.{◌≡◌, length, map, take}
use Rattle.std.specs.List.{zip}
use Rattle.metric_queries.specs.ByKeys.{mask_at}
use Rattle.metric_queries.proofs.matching.masks_of.Given as goal

abbrev pub invariant-loop-key : goal.invariant-loop-key
invariant-loop-key l =
    l.masks
    ≡ map (mask_at l.added l.served.kept_labels l.asked)
    (take (length l.yielded) (zip l.served.instrument.now.keys l.served.stream.now.kept))
