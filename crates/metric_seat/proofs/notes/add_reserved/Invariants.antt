-- a slip of each so far
use Rattle.std.proofs.Common.{◌≡◌, ◌≤◌, ◌+◌, ◌-◌, ◌++◌, length, map, take, vec_capacity, vec_len}
use Rattle.metric_seat.specs.KeyRecordings.{slip_of_one}
use Rattle.metric_seat.proofs.notes.add_reserved.Given as goal

abbrev pub invariant-loop-one : goal.invariant-loop-one
invariant-loop-one l = record {
  room : vec_len l.slips + (length l.all - l.one-index) ≤ vec_capacity l.slips;
  noted : l.slips.items ≡ l.fn.slips.items ++ map slip_of_one (take l.one-index l.all);
}
