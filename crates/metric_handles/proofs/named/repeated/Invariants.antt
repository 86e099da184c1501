-- the first of those that are left is the first of all
use Rattle.std.proofs.Common.{◌≡◌, ◌+◌, length, map}
use Rattle.metric_handles.specs.Named.{repeated_from}
use Rattle.metric_handles.proofs.named.repeated.Given as goal

abbrev pub invariant-loop-left : goal.invariant-loop-left
invariant-loop-left l = record {
  found : repeated_from l.place (map (λ key. key.now) l.left) ≡ repeated_from 0 (map (λ key. key.now) l.keys);
  count : l.place + length l.left ≡ length l.keys;
}

abbrev pub decreases-loop-left : goal.decreases-loop-left
decreases-loop-left l = length l.left
