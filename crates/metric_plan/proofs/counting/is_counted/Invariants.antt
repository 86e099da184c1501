-- the instruments so far fit
use Rattle.std.proofs.Common.{◌≡◌, drop}
use Rattle.metric_plan.specs.Counting.{counts_fit, is_counted}
use Rattle.metric_plan.proofs.counting.is_counted.Given as goal

abbrev pub invariant-loop-number : goal.invariant-loop-number
invariant-loop-number l = counts_fit l.catalogue l.number (drop l.number l.catalogue.instruments) ≡ is_counted l.catalogue
