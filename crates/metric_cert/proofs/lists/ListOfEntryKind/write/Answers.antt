-- the values that were written are read back
use Rattle.std.proofs.Common.{◌+◌, Ok, ap, ◌∙◌}
use Rattle.metric_cert.proofs.Written.{list_of-array, same_printable}
use Rattle.metric_cert.proofs.lists.ListOfEntryKind.write.Goals as goal

pub returns-clause-reads : goal.returns-clause-reads
returns-clause-reads g c = list_of-array g.E.EntryKind.step _ c.in_ok-values.values.items _ c.listed.ensures (c.in_ok-values.ensures.reads ∙ ap Ok c.as_slice.ensures)

pub returns-clause-printable : goal.returns-clause-printable
returns-clause-printable g c = same_printable (g.E.EntryKind.levels + 1) _ _ c.listed.ensures c.in_ok-values.ensures.printable
