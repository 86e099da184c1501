-- the values so far are those before and the first numbers of the range
use Rattle.std.proofs.Common.{◌≡◌, ◌+◌, ◌++◌, length, map}
use Rattle.std.specs.List.{range_with_len}
use Rattle.metric_catalogue.specs.KeyValues.{nth_from}
use Rattle.metric_catalogue.proofs.values.push_span.Given as goal

abbrev pub invariant-loop-place : goal.invariant-loop-place
invariant-loop-place l = record {
  more : length l.values ≡ length l.initial.values + l.place;
  put : l.values ≡ l.initial.values ++ map (nth_from l.first) (range_with_len 0 l.place);
}
