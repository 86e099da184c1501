-- the entries so far, and those of the values that are left, are those of all
use Rattle.std.proofs.Common.{◌≡◌, map, drop, []}
use Rattle.toml.specs.View.{view}
use Rattle.metric_base.specs.Steps.{each}
use Rattle.metric_cert.proofs.lists.read_all.Given as goal

abbrev pub invariant-loop-value : goal.invariant-loop-value
invariant-loop-value g l =
    each (λ _ d. g.E.EntryKind.step d) l.entries (map view (drop l.value-index l.values)) ≡ each (λ _ d. g.E.EntryKind.step d) [] (map view l.values)
