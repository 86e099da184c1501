-- what is cut off so far is zeros
use Rattle.std.proofs.Common.{◌≡◌, ◌+◌, ◌≤◌, ◌==◌, length, take}
use Rattle.std.specs.List.{suffix_len}
use Rattle.metric_exposition.proofs.boundary.significant.Given as goal

abbrev pub invariant-loop-end : goal.invariant-loop-end
invariant-loop-end l = record {
  within : l.end ≤ length l.digits;
  zeros : l.end + suffix_len (λ d. d == 48) l.digits ≡ length l.digits + suffix_len (λ d. d == 48) (take l.end l.digits);
}

abbrev pub decreases-loop-end : goal.decreases-loop-end
decreases-loop-end l = l.end
