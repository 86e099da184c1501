-- the numbers that were written are read back
use Rattle.std.proofs.Common.{Ok, ap, ◌∙◌}
use Rattle.metric_cert.proofs.Written.{set_key_of-array}
use Rattle.metric_cert.proofs.stream.SetKeyEntryEntryKind.write.Goals as goal

pub returns-clause-reads : goal.returns-clause-reads
returns-clause-reads c =
    set_key_of-array _ _ _ c.listed.ensures c.in_ok-values.ensures.reads c.numbers_of.ensures.long ∙ ap Ok c.numbers_of.ensures.numbers
