-- the fields that were put are read back
use Rattle.std.proofs.Common.{◌+◌}
use Rattle.metric_cert.proofs.Written.{same_printable, table_as-table}
use Rattle.metric_cert.proofs.fields.TableEntryEntryKind.write.Goals as goal

pub returns-clause-reads : goal.returns-clause-reads
returns-clause-reads g c = table_as-table g.F.Fields.step _ _ _ c.tabled.ensures c.in_ok-put.ensures.reads

pub returns-clause-printable : goal.returns-clause-printable
returns-clause-printable g c = same_printable (g.F.Fields.levels + 1) _ _ c.tabled.ensures c.in_ok-put.ensures.printable
