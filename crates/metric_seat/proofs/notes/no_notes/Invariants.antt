-- a list for each so far
use Rattle.std.proofs.Common.{◌≡◌, ◌≤◌, [], replicate, vec_capacity, vec_len}
use Rattle.metric_seat.proofs.notes.no_notes.Given as goal

abbrev pub invariant-loop : goal.invariant-loop
invariant-loop l = record {
  count : vec_len l.notes ≡ l.counter;
  room : l.instruments ≤ vec_capacity l.notes;
  empty : l.notes.items ≡ replicate l.counter [];
}
