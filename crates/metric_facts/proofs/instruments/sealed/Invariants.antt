-- the facts so far and those that are left
use Rattle.std.proofs.Common.{◌≡◌}
use Rattle.metric_facts.proofs.instruments.sealed.Given as goal

abbrev pub invariant-loop-fields : goal.invariant-loop-fields
invariant-loop-fields l = l.sealed ≡ l.yielded
