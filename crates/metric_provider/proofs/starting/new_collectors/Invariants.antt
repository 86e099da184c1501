-- the seats so far
use Rattle.std.proofs.Common.{◌≡◌, length, map}
use Rattle.std.specs.List.{range_with_len}
use Rattle.metric_seat.specs.Seats.{new_collector}
use Rattle.metric_provider.proofs.starting.new_collectors.Given as goal

abbrev pub invariant-loop-number : goal.invariant-loop-number
invariant-loop-number l = l.seats.items ≡ map (new_collector l.run (length l.plan.facts.instruments)) (range_with_len 0 l.number)
