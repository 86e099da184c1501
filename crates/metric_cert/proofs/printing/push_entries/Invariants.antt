-- the entries so far stand in the text
use Rattle.std.proofs.Common.{◌+◌, string_bytes, take}
use Rattle.metric_cert.specs.Printing.{AppendsEntries}
use Rattle.metric_cert.specs.Reading.{table_as}
use Rattle.metric_cert.proofs.printing.push_entries.Given as goal

abbrev pub invariant-loop-entry : goal.invariant-loop-entry
invariant-loop-entry g l =
    AppendsEntries (table_as g.F.Fields.step) (g.F.Fields.levels + 1) l.fn.name (take l.entry-index l.entries) (string_bytes l.initial.text) (string_bytes l.text)
