use Rattle.std.proofs.Common.{◌≡◌, drop}
use Rattle.metric_base.specs.Boundaries.{is_rising, rises_after}
use Rattle.metric_base.proofs.rising.is_rising.Given as goal

-- the numbers rise exactly where those that are left rise after the last one
abbrev pub invariant-loop-number : goal.invariant-loop-number
invariant-loop-number l = rises_after l.before (drop l.number-index l.others) ≡ is_rising l.fn.numbers
