-- the batches of the readers so far are right up to the first that is not
use Rattle.metric_audit.proofs.BatchLaws.{NarrowedTo}
use Rattle.metric_audit.proofs.batches.first_wrong.Given as goal

abbrev pub invariant-loop-reader : goal.invariant-loop-reader
invariant-loop-reader l = NarrowedTo l.facts l.run.instrument l.run.start l.run.entries.now l.batches l.readers l.reader l.first
