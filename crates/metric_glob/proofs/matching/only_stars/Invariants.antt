use Rattle.std.proofs.Common.{◌≡◌, ◌≤◌, length, drop, [], ◌-◌}
use Rattle.metric_glob.specs.Matching.{is_match}
use Rattle.metric_glob.proofs.matching.only_stars.Given as goal

abbrev pub invariant-loop-place : goal.invariant-loop-place
invariant-loop-place l = record {
  within : l.place ≤ length l.pattern;
  same : is_match (drop l.place l.pattern) [] ≡ is_match (drop l.start l.pattern) [];
}

abbrev pub decreases-loop-place : goal.decreases-loop-place
decreases-loop-place l = length l.pattern - l.place
