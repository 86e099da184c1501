-- the tables so far, and those of the values that are left, are those of all
use Rattle.std.proofs.Common.{◌≡◌, map, drop, []}
use Rattle.toml.specs.View.{view}
use Rattle.metric_base.specs.Steps.{each}
use Rattle.metric_cert.specs.Reading.{entry_as}
use Rattle.metric_cert.proofs.fields.read_entries.Given as goal

abbrev pub invariant-loop-value : goal.invariant-loop-value
invariant-loop-value g l =
    each (entry_as l.list g.F.Fields.step) l.entries (map view (drop l.value-index l.values)) ≡ each (entry_as l.list g.F.Fields.step) [] (map view l.values)
