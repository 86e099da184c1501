-- the sum over the places so far, each of which weighs less than 2^48
use Rattle.std.proofs.Common.{◌≡◌, ◌*◌, ◌^◌, ◌≤◌}
use Rattle.metric_dense.specs.Weights.{weighted}
use Rattle.metric_dense.proofs.weights.weighted.Given as goal

abbrev pub invariant-loop-place : goal.invariant-loop-place
invariant-loop-place l = (l.total ≡ weighted l.place l.weights l.entries) × (l.total ≤ l.place * 2 ^ 48)
