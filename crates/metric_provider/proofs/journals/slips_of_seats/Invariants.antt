-- those so far
use Rattle.std.proofs.Common.{◌≡◌}
use Rattle.metric_provider.specs.Totals.{slips_of_seats}
use Rattle.metric_provider.proofs.journals.slips_of_seats.Given as goal

abbrev pub invariant-loop-instrument : goal.invariant-loop-instrument
invariant-loop-instrument l = l.slips.items ≡ slips_of_seats l.seats l.recorders l.instrument
