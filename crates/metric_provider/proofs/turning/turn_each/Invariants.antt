use Rattle.std.proofs.Common.{◌≡◌, ◌≤◌, ◌+◌, vec_capacity, vec_len}
use Rattle.metric_provider.proofs.TurnLaws.{IsTurned}
use Rattle.metric_provider.proofs.turning.turn_each.Given as goal

abbrev pub invariant-loop-one : goal.invariant-loop-one
invariant-loop-one g l = record {
  turned : IsTurned g.T.Turns.turns l.fn.all.items l.all.items l.room.items;
  count : vec_len l.room + vec_len l.all ≡ vec_len l.fn.all;
  room : vec_len l.room + vec_len l.all ≤ vec_capacity l.room;
  kept : vec_capacity l.all ≡ vec_capacity l.fn.all;
}

abbrev pub decreases-loop-one : goal.decreases-loop-one
decreases-loop-one g l = vec_len l.all
