-- the labels of the kept keys so far
use Rattle.std.proofs.Common.{◌≡◌, length, take}
use Rattle.std.specs.List.{zip}
use Rattle.metric_queries.proofs.Pairs.{labels_of}
use Rattle.metric_queries.proofs.served.kept_labels.Given as goal

abbrev pub invariant-loop-key : goal.invariant-loop-key
invariant-loop-key l = l.labels ≡ labels_of (take (length l.yielded) (zip l.keys l.kept))
