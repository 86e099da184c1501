-- those before are of other recorders than those after them
use Rattle.std.proofs.Common.{◌≡◌, length}
use Rattle.metric_seat.specs.Settlements.{are_distinct}
use Rattle.metric_seat.proofs.settling.are_distinct.Given as goal

abbrev pub invariant-loop-seat : goal.invariant-loop-seat
invariant-loop-seat g l = are_distinct g.S.Tells.numbered l.rest ≡ are_distinct g.S.Tells.numbered l.seats

abbrev pub decreases-loop-seat : goal.decreases-loop-seat
decreases-loop-seat g l = length l.rest
