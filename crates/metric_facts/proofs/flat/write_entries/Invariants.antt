-- what is written and the rows that are left
use Rattle.std.proofs.Common.{◌≡◌, ◌++◌, drop}
use Rattle.metric_facts.specs.Flat.{flat_each, flat_row}
use Rattle.metric_facts.proofs.flat.write_entries.Given as goal

abbrev pub invariant-loop-row : goal.invariant-loop-row
invariant-loop-row l = l.bytes.items ++ flat_each (flat_row l.keys) (drop l.row-index l.rows) ≡ l.initial.bytes.items ++ flat_each (flat_row l.keys) l.rows
