-- the sum of the rows so far, each of which is an i64
use Rattle.std.proofs.Common.{◌≡◌, ◌*◌, ◌^◌, take, pos, neg_ℤ, ◌≤ℤ◌}
use Rattle.std.specs.Prelude.{filter}
use Rattle.metric_aggregate.specs.Value.{sum_of}
use Rattle.metric_history.specs.Series.{belongs}
use Rattle.metric_history.specs.Points.{values}
use Rattle.metric_journal.proofs.sums.sum_of_rows.Given as goal

abbrev pub invariant-loop-entry : goal.invariant-loop-entry
invariant-loop-entry l = record {
  sum : l.sum ≡ sum_of (values (filter (belongs l.stream l.window l.place) (take l.entry-index l.window)));
  low : neg_ℤ (pos (2 ^ 63 * l.entry-index)) ≤ℤ l.sum;
  high : l.sum ≤ℤ pos (2 ^ 63 * l.entry-index);
}
