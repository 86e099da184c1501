-- what is written and the values that are left
use Rattle.std.proofs.Common.{◌≡◌, ◌++◌, drop}
use Rattle.metric_facts.specs.Flat.{flat_each}
use Rattle.metric_facts.proofs.flat.write_each.Given as goal

abbrev pub invariant-loop-value : goal.invariant-loop-value
invariant-loop-value g l =
    l.bytes.items ++ flat_each g.T.Flat.flat (drop l.value-index l.values) ≡ l.initial.bytes.items ++ flat_each g.T.Flat.flat l.values
