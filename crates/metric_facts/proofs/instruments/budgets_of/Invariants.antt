-- the budgets of the recorders so far
use Rattle.std.proofs.Common.{◌≡◌, map, take}
use Rattle.metric_contents.specs.Budgets.{amount_of}
use Rattle.metric_facts.proofs.instruments.budgets_of.Given as goal

abbrev pub invariant-loop-recorder : goal.invariant-loop-recorder
invariant-loop-recorder l = l.budgets ≡ map (λ recorder. amount_of recorder l.number) (take l.recorder-index l.recorders)
