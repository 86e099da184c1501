-- the places are the distinct series so far, and the series is none of them
use Rattle.std.proofs.Common.{◌≡◌, ◌≤◌, false, length, take}
use Rattle.metric_history.specs.Series.{all_series, has, distinct}
use Rattle.metric_journal.proofs.series.has_place.Given as goal

abbrev pub invariant-loop-i : goal.invariant-loop-i
invariant-loop-i l = record {
  places : l.places ≡ length (distinct (all_series l.kept (take l.i l.entries)));
  few : l.places ≤ l.i;
  new : has (all_series l.kept (take l.i l.entries)) l.key ≡ false;
}
