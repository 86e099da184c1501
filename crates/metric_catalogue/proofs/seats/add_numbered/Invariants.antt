-- the recorders so far, and those of the names that are left, are all
use Rattle.std.proofs.Common.{◌≡◌, ◌+◌, ◌-◌, map, length}
use Rattle.std.specs.List.{range_with_len}
use Rattle.metric_base.specs.Steps.{each}
use Rattle.metric_catalogue.specs.Seats.{numbered, seat_of}
use Rattle.metric_catalogue.proofs.seats.add_numbered.Given as goal

abbrev pub invariant-loop-number : goal.invariant-loop-number
invariant-loop-number l = record {
  few : length l.recorders ≡ length l.initial.recorders + l.number;
  exact : each (seat_of l.at l.budgets) l.recorders (map (numbered l.name) (range_with_len l.number (l.count - l.number)))
      ≡ each (seat_of l.at l.budgets) l.initial.recorders (map (numbered l.name) (range_with_len 0 l.count));
}
