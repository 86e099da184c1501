-- those so far
use Rattle.std.proofs.Common.{◌≡◌}
use Rattle.metric_provider.specs.Totals.{slips_on}
use Rattle.metric_provider.proofs.journals.slips_on.Given as goal

abbrev pub invariant-loop-number : goal.invariant-loop-number
invariant-loop-number l = l.slips.items ≡ slips_on l.seats l.number l.instrument
