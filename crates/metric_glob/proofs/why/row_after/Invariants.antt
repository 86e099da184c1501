use Rattle.std.proofs.Common.{◌≡◌}
use Rattle.metric_glob.specs.Reach.{is_entered, is_reached, is_after_star, places_of}
use Rattle.metric_glob.proofs.why.row_after.Given as goal

abbrev pub invariant-loop-place : goal.invariant-loop-place
invariant-loop-place l = record {
  row : l.row ≡ places_of (is_reached l.pattern (is_entered l.pattern l.before l.found)) l.place;
  after_star : l.after_star ≡ is_after_star l.pattern (is_entered l.pattern l.before l.found) l.place;
}
