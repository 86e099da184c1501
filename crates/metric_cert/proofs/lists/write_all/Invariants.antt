-- the values so far are read as the entries so far
use Rattle.std.proofs.Common.{◌≡◌, ◌+◌, map, take, Ok}
use Rattle.toml.specs.Data.{array}
use Rattle.toml.specs.View.{items_view, view}
use Rattle.metric_table.specs.Fields.{each_alone}
use Rattle.metric_cert.specs.Writing.{IsPrintable}
use Rattle.metric_cert.proofs.lists.write_all.Given as goal

abbrev pub invariant-loop-entry : goal.invariant-loop-entry
invariant-loop-entry g l = record {
  reads : each_alone g.E.EntryKind.step (map view l.values.items) ≡ Ok (take l.entry-index l.entries);
  printable : IsPrintable (g.E.EntryKind.levels + 1) (array (items_view l.values.items));
}
