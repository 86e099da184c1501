-- the sum so far
use Rattle.std.proofs.Common.{◌≡◌, ◌≤◌, ◌*◌, ◌^◌, take}
use Rattle.metric_seat.specs.Settlements.{told_count}
use Rattle.metric_seat.proofs.settling.count_of.Given as goal

abbrev pub invariant-loop-seat : goal.invariant-loop-seat
invariant-loop-seat g l = record {
  sum : l.count ≡ told_count (λ (seat : g.row.S.Denot). g.S.Tells.tells seat l.instrument) (take l.seat-index l.seats);
  bound : l.count ≤ l.seat-index * 2 ^ 64;
}
