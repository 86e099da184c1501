-- the tables so far are ready, and stay in range
use Rattle.std.proofs.Common.{◌≡◌, length, take, vec_capacity}
use Rattle.metric_marked.specs.Stepwise.{AreInRange, EachAt, IsReadyFor}
use Rattle.metric_marked.proofs.tables.ready_all.Given as goal

abbrev pub invariant-loop-stream : goal.invariant-loop-stream
invariant-loop-stream l = record {
  ready : EachAt (IsReadyFor l.entry) l.fn.tables l.tables l.places.items;
  one_each : length l.places.items ≡ l.stream-index;
  in_range : AreInRange l.entry (take l.stream-index l.fn.tables);
  room : vec_capacity l.places ≡ vec_capacity l.fn.places;
}
